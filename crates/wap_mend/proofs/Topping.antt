-- The root that is being put together: its elements may stand where they stand, and the ids of the
-- cards are distinct.
use Rattle.std.proofs.Common.{◌≡◌, ℕ, ◌+◌, ◌<◌, Bool, true, false, ◌&&◌}
use Rattle.std.proofs.Common.{nat_eq, cond, List, [], ◌∷◌, ◌++◌, length, get_or, take, map, Option}
use Rattle.std.proofs.Common.{Some, None, Result, Ok, Err, refl, sym, ap, subst, ◌∙◌, append_assoc}
use Rattle.std.proofs.Common.{eq-eqb, arith}
use Rattle.std.specs.Prelude.{is_some, IfSome, IfOk, not, filter, find}
use Rattle.std.specs.List.{list_all, filter_map, cons_option, AllByRecursion}
use Rattle.std.specs.Option.{option_to_list, option_map, option_and_then}
use Rattle.std.proofs.lemmas.List.Elements.{filter_map-append}
use denote.Enum.Bare.{true_same}
use Rattle.wap_base.specs.declared.name.Part.{Part}
use Rattle.std.proofs.lemmas.List.{append-nil, map-append, take_more}
use Rattle.std.proofs.lemmas.List.Folds.{list_all-append}
use mathlib.Core.Bool.{and-true}
use Rattle.wap_tokens.specs.declared.markup.deck.Node.{Node}
use Rattle.wap_tokens.specs.declared.markup.deck.Item.{Item}
use Rattle.wap_tokens.specs.declared.markup.deck.Item.TheVariants as item
use Rattle.wap_tokens.specs.declared.markup.name.Tag.{Tag}
use Rattle.wap_tokens.specs.declared.markup.name.Tag.TheVariants as tags
use Rattle.wap_tokens.specs.contracts.markup.name.Tag as type
use Rattle.wap_tokens.specs.declared.markup.deck.Item.TheVariants.{outs-Node}
use Rattle.wap_tokens.specs.declared.markup.name.AttrName.{AttrName}
use Rattle.wap_tokens.specs.declared.markup.name.AttrName.TheVariants as attrs
use Rattle.wap_tokens.specs.markup.Tables.{is_same_tag, is_same_attr}
use Rattle.wap_tokens.specs.markup.Trees.{node_from, node_of, if_tagged, node_with, plain_text}
use Rattle.wap_tokens.specs.markup.Cards.{id_of}
use Rattle.wap_tokens.specs.markup.Good.{Rule, rules, rule_of, place_in, may_precede, may_follow}
use Rattle.wap_tokens.specs.markup.Good.{tags_of, has_needs}
use Rattle.wap_deckcheck.specs.Places.{own_id}
use Rattle.wap_deckcheck.proofs.GoodDecks.{id_alone}
use Rattle.wap_mend.specs.inside.Building.{Kept, Built, Filled, value_among, is_named}
use Rattle.wap_mend.specs.inside.Names.{times, taken, Takes}
use Rattle.wap_mend.specs.inside.Tops.{Topped, IsUnder, items_with, IsAdding, AreTaken, IsTop}
use Rattle.wap_mend.specs.inside.Tops.{ids_in, own_id_of, Gathers}
use Rattle.wap_mend.proofs.Building.{nodes_behind}

-- ---- nothing

-- nothing stands in the root
pub nothing_topped : (ids : List (List ℕ))
    → IsTop (record { head = None; template = None; cards = []; ids = ids })
nothing_topped ids =
    record { head = tt; template = tt; cards = tt; head_mute = refl; template_mute = refl }

-- ---- what may follow in the root

-- the tags of items with an element more
tags_behind : (items : List Item) (node : Node)
    → tags_of (items ++ item.Node node ∷ []) ≡ tags_of items ++ node.tag ∷ []
tags_behind items node =
    ap (map (λ one. one.tag)) (nodes_behind items node)
    ∙ map-append (λ one. one.tag) (filter_map node_of items) (node ∷ [])

-- what may follow some elements may follow one more that may precede it
follows_more : (rule : Rule) (earlier : List Tag) (last tag : Tag)
    → may_follow rule earlier tag ≡ true → may_precede rule last tag ≡ true
    → may_follow rule (earlier ++ last ∷ []) tag ≡ true
follows_more rule earlier last tag follows precedes =
    let before : Tag → Bool = λ first. may_precede rule first tag in
    ap (λ b. is_some (place_in rule.groups tag) && b)
    (list_all-append before earlier (last ∷ [])
    ∙ ap (λ b. list_all before earlier && (b && true)) precedes
    ∙ and-true (list_all before earlier)) ∙ follows

-- a card may precede another
card_precedes : may_precede (rule_of tags.Wml) tags.Card tags.Card ≡ true
unfolding rule_of rules
card_precedes = refl

-- a card may follow one more card
card_follows : (items : List Item) (node : Node) → node.tag ≡ tags.Card
    → may_follow (rule_of tags.Wml) (tags_of items) tags.Card ≡ true
    → may_follow (rule_of tags.Wml) (tags_of (items ++ item.Node node ∷ [])) tags.Card ≡ true
card_follows items node is follows =
    ap (λ earlier. may_follow (rule_of tags.Wml) earlier tags.Card)
    (tags_behind items node ∙ ap (λ tag. tags_of items ++ tag ∷ []) is)
    ∙ follows_more (rule_of tags.Wml) (tags_of items) tags.Card tags.Card follows card_precedes

-- ---- elements that are added

-- an element that may stand in content is added
added : (content new : Filled) (element : Built) (taken : Bool) → element.levels ≡ content.room
    → may_follow content.rule (tags_of content.items) element.node.tag ≡ true
    → taken ≡ (nat_eq element.levels content.room
    && may_follow content.rule (tags_of content.items) element.node.tag)
    → new ≡ record content {
      items = cond taken (content.items ++ item.Node element.node ∷ []) content.items;
    }
    → new ≡ record content { items = content.items ++ item.Node element.node ∷ [] }
added content new element taken levels follows is so =
    let yes : taken ≡ true =
    is ∙ ap (λ b. b && may_follow content.rule (tags_of content.items) element.node.tag)
    (eq-eqb element.levels content.room levels) ∙ follows in
    so ∙ ap (λ taken. record content {
      items = cond taken (content.items ++ item.Node element.node ∷ []) content.items;
    }) yes

-- the next card is added
pub adding_more : (begun content new : Filled) (all rest left : List Built) (card : Built)
    (taken : Bool) → IsAdding begun all content rest → rest ≡ card ∷ left
    → taken ≡ (nat_eq card.levels content.room
    && may_follow content.rule (tags_of content.items) card.node.tag)
    → new ≡ record content {
      items = cond taken (content.items ++ item.Node card.node ∷ []) content.items;
    }
    → IsAdding begun all new left
adding_more begun content new all rest left card taken adding is told so =
    let cards = subst (AllByRecursion (IsUnder tags.Card)) is adding.cards in
    let this : IsUnder tags.Card card = cards.0 in
    let more : List Item = content.items ++ item.Node card.node ∷ [] in
    let follows =
    ap (λ rule. may_follow rule (tags_of content.items) card.node.tag) adding.rule
    ∙ ap (may_follow (rule_of tags.Wml) (tags_of content.items)) this.tag ∙ adding.follows in
    let after : new ≡ record content { items = more } =
    added content new card taken (this.levels ∙ sym adding.room) follows told so in
    subst (λ (filled : Filled). IsAdding begun all filled left) (sym after) (record {
      rule = adding.rule;
      room = adding.room;
      same =
          ap (λ items. record content { items = items })
          (append_assoc content.items (item.Node card.node ∷ []) (items_with left)
          ∙ ap (λ rest. content.items ++ items_with rest) (sym is))
          ∙ adding.same;
      cards = cards.1;
      follows = card_follows content.items card.node this.tag adding.follows;
    })

-- all cards are added
pub all_added : (begun content : Filled) (all rest : List Built)
    → IsAdding begun all content rest → rest ≡ []
    → content ≡ record begun { items = begun.items ++ items_with all }
all_added begun content all rest adding none =
    ap (λ items. record content { items = items }) (sym (append-nil content.items))
    ∙ ap (λ rest. record content { items = content.items ++ items_with rest }) (sym none)
    ∙ adding.same

-- ---- a head, a template, and cards

-- a head may stand first
head_first : may_follow (rule_of tags.Wml) [] tags.Head ≡ true
unfolding rule_of rules
head_first = refl

-- a template may stand first
template_first : may_follow (rule_of tags.Wml) [] tags.Template ≡ true
unfolding rule_of rules
template_first = refl

-- a template may stand behind a head
template_second : may_follow (rule_of tags.Wml) (tags.Head ∷ []) tags.Template ≡ true
unfolding rule_of rules
template_second = refl

-- a card may stand first
card_first : may_follow (rule_of tags.Wml) [] tags.Card ≡ true
unfolding rule_of rules
card_first = refl

-- a card may stand behind a head
card_second : may_follow (rule_of tags.Wml) (tags.Head ∷ []) tags.Card ≡ true
unfolding rule_of rules
card_second = refl

-- a card may stand behind a template
card_next : may_follow (rule_of tags.Wml) (tags.Template ∷ []) tags.Card ≡ true
unfolding rule_of rules
card_next = refl

-- a card may stand behind both
card_third : may_follow (rule_of tags.Wml) (tags.Head ∷ tags.Template ∷ []) tags.Card ≡ true
unfolding rule_of rules
card_third = refl

-- the tag of an element, if there is one
abbrev tag_if : Tag → Option Built → List Tag
tag_if tag None = []
tag_if tag (Some element) = tag ∷ []

-- it is that of the element as an item
tags_if : (tag : Tag) (found : Option Built) → IfSome found (IsUnder tag)
    → tags_of (items_with (option_to_list found)) ≡ tag_if tag found
tags_if tag None under = refl
tags_if tag (Some element) under =
    ap (λ node. map (λ one. one.tag) (cons_option node []))
    (ap node_from (outs-Node element.node)) ∙ ap (λ tag. tag ∷ []) under.tag

-- a head may follow nothing
pub head_follows : (head : Option Built) (content : Filled) → IfSome head (IsUnder tags.Head)
    → content.rule ≡ rule_of tags.Wml → content.items ≡ []
    → IfSome head (λ one. may_follow content.rule (tags_of content.items) one.node.tag ≡ true)
head_follows None content under rule none = tt
head_follows (Some head) content under rule none =
    ap (λ rule. may_follow rule (tags_of content.items) head.node.tag) rule
    ∙ ap (λ items. may_follow (rule_of tags.Wml) (tags_of items) head.node.tag) none
    ∙ ap (may_follow (rule_of tags.Wml) []) under.tag ∙ head_first

-- a template may follow a head, if there is one
template_after : (head : Option Built)
    → may_follow (rule_of tags.Wml) (tag_if tags.Head head) tags.Template ≡ true
template_after None = template_first
template_after (Some head) = template_second

-- a template may follow what is there then
pub template_follows : (head template : Option Built) (content : Filled)
    → IfSome head (IsUnder tags.Head) → IfSome template (IsUnder tags.Template)
    → content.rule ≡ rule_of tags.Wml → content.items ≡ items_with (option_to_list head)
    → IfSome template (λ one.
    may_follow content.rule (tags_of content.items) one.node.tag ≡ true)
template_follows head None content first under rule is = tt
template_follows head (Some template) content first under rule is =
    ap (λ rule. may_follow rule (tags_of content.items) template.node.tag) rule
    ∙ ap (may_follow (rule_of tags.Wml) (tags_of content.items)) under.tag
    ∙ ap (λ earlier. may_follow (rule_of tags.Wml) earlier tags.Template)
    (ap tags_of is ∙ tags_if tags.Head head first) ∙ template_after head

-- a card may follow a head and a template, if there are any
card_after : (head template : Option Built)
    → may_follow (rule_of tags.Wml) (tag_if tags.Head head ++ tag_if tags.Template template)
    tags.Card
    ≡ true
card_after None None = card_first
card_after (Some head) None = card_second
card_after None (Some template) = card_next
card_after (Some head) (Some template) = card_third

-- cards may follow what is there then
pub cards_follow : (head template : Option Built) (items : List Item)
    → IfSome head (IsUnder tags.Head) → IfSome template (IsUnder tags.Template)
    → items ≡ items_with (option_to_list head) ++ items_with (option_to_list template)
    → may_follow (rule_of tags.Wml) (tags_of items) tags.Card ≡ true
cards_follow head template items first second is =
    let before = items_with (option_to_list head) in
    let behind = items_with (option_to_list template) in
    ap (λ earlier. may_follow (rule_of tags.Wml) earlier tags.Card)
    (ap tags_of is ∙ ap (map (λ one. one.tag)) (filter_map-append node_of before behind)
    ∙ map-append (λ one. one.tag) (filter_map node_of before) (filter_map node_of behind)
    ∙ ap (λ first. first ++ tags_of behind) (tags_if tags.Head head first)
    ∙ ap (λ next. tag_if tags.Head head ++ next) (tags_if tags.Template template second))
    ∙ card_after head template

-- ---- ids that are taken

-- a text stands as often in two lists as in both
times_append : (text : List ℕ) (texts more : List (List ℕ))
    → times text (texts ++ more) ≡ times text texts + times text more
times_append text [] more = omega arith
times_append text (first ∷ texts) more = omega (arith, times_append text texts more)

-- no id more is taken
pub none_more : (top new : Topped) (more : Option (List ℕ)) → AreTaken top None
    → new ≡ top → more ≡ None → AreTaken new more
none_more top new more are same none =
    subst (AreTaken new) (sym none) (subst (λ top. AreTaken top None) (sym same) are)

-- an id more is taken
pub one_more : (top : Topped) (ids : List (List ℕ)) (more : Option (List ℕ)) (text : List ℕ)
    → AreTaken top None → Takes top.ids ids [] (text ∷ []) → more ≡ Some text
    → AreTaken (record top { ids = ids }) more
one_more top ids more text are takes is =
    subst (AreTaken (record top { ids = ids })) (sym is)
    (record { each = λ other. omega (arith, are.each other, takes other) })

-- attributes without those of a name have none of that name
value_gone : (which : AttrName) (rows : List (AttrName × List Part))
    → value_among which (filter (λ attribute. not (is_named which attribute)) rows) ≡ None
value_gone which [] = refl
value_gone which (row ∷ rows) =
    by_test (is_same_attr row.0 which) refl (value_gone which rows)
  where
    others : List (AttrName × List Part)
    others = filter (λ attribute. not (is_named which attribute)) rows

    by_test : (test : Bool) → is_same_attr row.0 which ≡ test → value_among which others ≡ None
        → value_among which (cond (not test) (row ∷ others) others) ≡ None
    by_test true is none = none
    by_test false is none =
        ap (λ test. option_map (λ (a : AttrName × List Part). a.1)
        (cond test (Some row) (find (λ (a : AttrName × List Part). is_same_attr a.0 which) others)))
        is
        ∙ none

-- an element without an id has none
pub no_own_id : (told given : Kept)
    → told ≡ record given {
      rows = filter (λ attribute. not (is_named attrs.Id attribute)) given.rows;
    }
    → own_id_of told ≡ None
no_own_id told given is =
    ap own_id_of is ∙ ap (λ found. cond (is_same_tag given.tag tags.Card)
    (option_and_then plain_text found) None) (value_gone attrs.Id given.rows)
    ∙ both_none (is_same_tag given.tag tags.Card)
  where
    none : Option (List ℕ)
    none = None

    both_none : (test : Bool) → cond test none none ≡ none
    both_none true = refl
    both_none false = refl

-- ---- elements that get there

-- a card
pub gathers_card : (old new : Topped) (card : Built) → AreTaken old (own_id card.node)
    → new.cards ≡ old.cards ++ card ∷ [] → new.ids ≡ old.ids → card.node.tag ≡ tags.Card
    → Gathers old new (option_to_list (if_tagged tags.Card (Some card.node)))
gathers_card old new card are cards ids is =
    let id : own_id card.node ≡ id_of card.node =
    ap (λ test. cond test (id_of card.node) None)
    (true_same type.the_type card.node.tag tags.Card is) in
    let all : ids_in new.cards ≡ ids_in old.cards ++ option_to_list (own_id card.node) =
    ap ids_in cards ∙ filter_map-append (λ card. id_of card.node) old.cards (card ∷ [])
    ∙ ap (λ ids. ids_in old.cards ++ ids) (id_alone (id_of card.node))
    ∙ ap (λ id. ids_in old.cards ++ option_to_list id) (sym id) in
    record {
      taken = record {
        each = λ text.
            rw (all, ids, times_append text (ids_in old.cards) (option_to_list (own_id card.node)))
            (omega (arith, are.each text));
      };
      before = λ none. absurd (not_none old.cards (sym cards ∙ none));
      found = λ none. absurd (not_none old.cards (sym cards ∙ none));
    }
  where
    not_none : (some : List Built) → some ++ card ∷ [] ≡ [] → ⊥
    not_none [] none = cc none
    not_none (first ∷ some) none = cc none

-- ---- what the root and a card can do without

-- nothing is asked for in the root
root_needs : (node : Node) → has_needs (rule_of tags.Wml) node ≡ true
unfolding rule_of rules
root_needs node = refl

-- the root needs nothing
pub root_whole : (rule : Rule) (node : Node) → rule ≡ rule_of tags.Wml
    → has_needs rule node ≡ true
root_whole rule node is = ap (λ rule. has_needs rule node) is ∙ root_needs node

-- no attribute is asked for in a card
card_attributes : (rule_of tags.Card).attributes ≡ []
unfolding rule_of rules
card_attributes = refl

-- no element is asked for in a card
card_needs : (rule_of tags.Card).needs ≡ []
unfolding rule_of rules
card_needs = refl

-- a card needs no attribute
pub no_attributes : (tag : Tag) (rule : Rule) → rule ≡ rule_of tag → tag ≡ tags.Card
    → rule.attributes ≡ []
no_attributes tag rule is card =
    ap (λ (rule : Rule). rule.attributes) (is ∙ ap rule_of card) ∙ card_attributes

-- a card needs no element
pub no_needs : (tag : Tag) (rule : Rule) → rule ≡ rule_of tag → tag ≡ tags.Card
    → rule.needs ≡ []
no_needs tag rule is card =
    ap (λ (rule : Rule). rule.needs) (is ∙ ap rule_of card) ∙ card_needs

-- what holds of each value holds where there is one
pub if_ok : {X E : Type 0} (r : Result X E) (P : X → Type 0) → ((x : X) → P x) → IfOk r P
if_ok (Ok x) P each = each x
if_ok (Err e) P each = tt

-- what follows for each value of which something holds
pub ok_then : {X E : Type 0} (r : Result X E) (P Q : X → Type 0) → IfOk r P
    → ((x : X) → P x → Q x) → IfOk r Q
ok_then (Ok x) P Q is then = then x is
ok_then (Err e) P Q is then = tt

-- ---- a walk

-- nothing is found yet
pub nothing_gathered : (top : Topped) → AreTaken top None → Gathers top top []
nothing_gathered top are =
    record { taken = are; before = λ none. none; found = λ none. refl }

-- what is found, and then more
gathers_more : (old between new : Topped) (nodes more : List Node) → Gathers old between nodes
    → Gathers between new more → Gathers old new (nodes ++ more)
gathers_more old between new nodes more first next = record {
  taken = next.taken;
  before = λ none. first.before (next.before none);
  found = λ none. ap (λ nodes. nodes ++ more) (first.found (next.before none)) ∙ next.found none;
}

-- a node alone
node_alone : (found : Option Node) → cons_option found [] ≡ option_to_list found
node_alone None = refl
node_alone (Some node) = refl

-- items and one more
pub item_gathered : (old between new : Topped) (items : List Item) (n : ℕ) (item : Item)
    → n < length items → item ≡ get_or items n item
    → Gathers old between (filter_map (node_with tags.Card) (take n items))
    → Gathers between new (option_to_list (node_with tags.Card item))
    → Gathers old new (filter_map (node_with tags.Card) (take (n + 1) items))
item_gathered old between new items n item within is first next =
    let card = node_with tags.Card in
    subst (Gathers old new)
    (ap (λ last. filter_map card (take n items) ++ last)
    (sym (node_alone (card item)) ∙ ap (λ item. filter_map card (item ∷ [])) is)
    ∙ sym (filter_map-append card (take n items) (get_or items n item ∷ []))
    ∙ ap (filter_map card) (sym (take_more items n item within)))
    (gathers_more old between new (filter_map card (take n items)) (option_to_list (card item))
    first next)

-- the id of what is made of attributes is theirs
pub made_id : (ids : Topped) (told : Kept) (node : Node) → node.tag ≡ told.tag
    → node.attrs ≡ told.rows → AreTaken ids (own_id_of told) → AreTaken ids (own_id node)
made_id ids told node tag rows are =
    subst (AreTaken ids) (ap (λ tag. own_id_of (record { tag = tag; rows = told.rows })) (sym tag)
    ∙ ap (λ rows. own_id_of (record { tag = node.tag; rows = rows })) (sym rows)) are
