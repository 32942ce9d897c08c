-- A deck whose root was put together is good: its cards are those that were put there, their ids
-- are distinct, and so are the names of the dos in each.
use Rattle.std.proofs.Common.{◌≡◌, ℕ, zero, suc, ◌-◌, ◌<◌, Bool, true, false, cond, arith}
use Rattle.std.proofs.Common.{List, [], ◌∷◌, ◌++◌, length, map, Option, Some, None, refl, sym, ap}
use Rattle.std.proofs.Common.{subst, ◌∙◌}
use Rattle.std.specs.Prelude.{filter, IfSome}
use Rattle.std.specs.List.{filter_map, flat_map, cons_option, AllByRecursion}
use Rattle.std.specs.Option.{option_to_list}
use Rattle.std.proofs.lemmas.List.Elements.{filter_map-append}
use denote.Enum.Bare.{true_same, false_same}
use Rattle.wap_base.specs.Texts.{AreDistinct}
use Rattle.wap_tokens.specs.declared.markup.document.TheConstants.{LEVEL_LIMIT}
use Rattle.wap_tokens.specs.declared.markup.deck.Node.{Node}
use Rattle.wap_tokens.specs.declared.markup.deck.Item.{Item, out-Item}
use Rattle.wap_tokens.specs.declared.markup.deck.Item.TheOpen.{Item-F}
use Rattle.wap_tokens.specs.declared.markup.deck.Item.TheVariants.{outs-Node}
use Rattle.wap_tokens.specs.declared.markup.deck.Item.TheVariants as item
use Rattle.wap_tokens.specs.contracts.markup.name.Tag as type
use Rattle.wap_tokens.specs.declared.markup.name.Tag.{Tag}
use Rattle.wap_tokens.specs.declared.markup.name.Tag.TheVariants as tags
use Rattle.wap_tokens.specs.markup.Tables.{is_same_tag}
use Rattle.wap_tokens.specs.markup.Trees.{ItemLevel, node_from, node_of, if_tagged, node_with}
use Rattle.wap_tokens.specs.markup.Cards.{id_of, cards_of, ids_of}
use Rattle.wap_tokens.specs.markup.Normal.{IsItem, IsNode, IsNormal}
use Rattle.wap_tokens.specs.markup.Good.{nodes_in, holds_dos, names_of_dos, IsGood}
use Rattle.wap_deckcheck.specs.Places.{own_name, names_among}
use Rattle.wap_deckcheck.proofs.GoodDecks.{same_names}
use Rattle.wap_mend.specs.inside.Building.{Built, IsApart, IsBuilt}
use Rattle.wap_mend.specs.inside.Tops.{Topped, IsUnder, items_with, items_in, ids_in, AreTaken}
use Rattle.wap_mend.specs.inside.Tops.{IsTop}
use Rattle.wap_mend.proofs.Counting.{distinct_once, taken_once}

-- ---- ids

-- ids that are taken are distinct
taken_distinct : (top : Topped) → AreTaken top None → AreDistinct (ids_in top.cards)
taken_distinct top are =
    distinct_once (ids_in top.cards)
    (λ text. omega (arith, are.each text, taken_once text top.ids))

-- ---- cards

-- an element as an item, if it is of this tag
node_if : (element : Built) (tag : Tag)
    → node_with tag (item.Node element.node)
    ≡ cond (is_same_tag element.node.tag tag) (Some element.node) None
node_if element tag = ap (λ level. if_tagged tag (node_from level)) (outs-Node element.node)

-- the cards among cards are all
cards_with : (cards : List Built) → AllByRecursion (IsUnder tags.Card) cards
    → filter_map (node_with tags.Card) (items_with cards) ≡ map (λ card. card.node) cards
cards_with [] under = refl
cards_with (card ∷ cards) under =
    ap (λ found. cons_option found (filter_map (node_with tags.Card) (items_with cards)))
    (node_if card tags.Card ∙ ap (λ test. cond test (Some card.node) None)
    (true_same type.the_type card.node.tag tags.Card under.0.tag))
    ∙ ap (λ nodes. card.node ∷ nodes) (cards_with cards under.1)

-- an element of another tag is no card
no_card : (tag : Tag) (found : Option Built) → (tag ≡ tags.Card → ⊥) → IfSome found (IsUnder tag)
    → filter_map (node_with tags.Card) (items_with (option_to_list found)) ≡ []
no_card tag None other under = refl
no_card tag (Some element) other under =
    ap (λ found. cons_option found [])
    (node_if element tags.Card ∙ ap (λ test. cond test (Some element.node) None)
    (false_same type.the_type tt element.node.tag tags.Card (λ card. other (sym under.tag ∙ card))))

-- the cards in the root are those that were put there
cards_in : (top : Topped) → IsTop top
    → filter_map (node_with tags.Card) (items_in top) ≡ map (λ card. card.node) top.cards
cards_in top is =
    let found : List Item → List Node = filter_map (node_with tags.Card) in
    let head = items_with (option_to_list top.head) in
    let template = items_with (option_to_list top.template) in
    filter_map-append (node_with tags.Card) (head ++ template) (items_with top.cards)
    ∙ ap (λ nodes. nodes ++ found (items_with top.cards))
    (filter_map-append (node_with tags.Card) head template
    ∙ ap (λ nodes. nodes ++ found template)
    (no_card tags.Head top.head (λ card. absurd (cc card)) is.head)
    ∙ no_card tags.Template top.template (λ card. absurd (cc card)) is.template)
    ∙ cards_with top.cards is.cards

-- so are their ids
ids_with : (cards : List Built) → filter_map id_of (map (λ card. card.node) cards) ≡ ids_in cards
ids_with [] = refl
ids_with (card ∷ cards) = ap (cons_option (id_of card.node)) (ids_with cards)

-- ---- dos

-- elements in which the nodes are the same have the same nodes
items_deeper : (inner : Node → Type 0) (some more : Node → List Node)
    → ((node : Node) → inner node → some node ≡ more node) → (items : List Item)
    → AllByRecursion (λ item. IsItem inner (out-Item item)) items
    → flat_map (λ node. node ∷ some node) (filter_map node_of items)
    ≡ flat_map (λ node. node ∷ more node) (filter_map node_of items)
items_deeper inner some more same [] each = refl
items_deeper inner some more same (item ∷ items) each =
    one (out-Item item) each.0 (items_deeper inner some more same items each.1)
  where
    nodes : List Node
    nodes = filter_map node_of items

    one : (level : ItemLevel) → IsItem inner level
        → flat_map (λ node. node ∷ some node) nodes ≡ flat_map (λ node. node ∷ more node) nodes
        → flat_map (λ node. node ∷ some node) (cons_option (node_from level) nodes)
        ≡ flat_map (λ node. node ∷ more node) (cons_option (node_from level) nodes)
    one (Item-F.Text parts) is rest = rest
    one (Item-F.Node node) is rest =
        ap (λ first. (node ∷ first) ++ flat_map (λ node. node ∷ some node) nodes) (same node is)
        ∙ ap (λ nodes. (node ∷ more node) ++ nodes) rest

-- a node of so many levels has no nodes that are deeper
nodes_deeper : (levels : ℕ) (node : Node) → IsNode levels node
    → nodes_in levels node.kids ≡ nodes_in (suc levels) node.kids
nodes_deeper zero node is = absurd is
nodes_deeper (suc levels) node is =
    items_deeper (IsNode levels) (λ node. nodes_in levels node.kids)
    (λ node. nodes_in (suc levels) node.kids) (nodes_deeper levels) node.kids is.content.each

-- the names of the dos in a card or a template are distinct
names_apart : (room : ℕ) (node : Node) → suc room ≡ LEVEL_LIMIT → IsNode room node
    → AreDistinct (names_among true room node.kids) → AreDistinct (names_of_dos node)
names_apart room node limit is distinct =
    subst AreDistinct
    (ap (filter_map (own_name true))
    (nodes_deeper room node is ∙ ap (λ levels. nodes_in levels node.kids) limit)
    ∙ same_names (nodes_in LEVEL_LIMIT node.kids)) distinct

-- the names of the dos in each are distinct
abbrev HaveApart : List Node → Type 0
HaveApart nodes = AllByRecursion (λ node. AreDistinct (names_of_dos node)) nodes

-- one more, if it is a card or a template
holder_if : (holds : Bool) (node : Node) (rest : List Node)
    → (holds ≡ true → AreDistinct (names_of_dos node)) → HaveApart rest
    → HaveApart (cond holds (node ∷ rest) rest)
holder_if true node rest apart more = (apart refl, more)
holder_if false node rest apart more = more

-- so they are in each card and in the template
holders_apart : (room : ℕ) (items : List Item) → suc room ≡ LEVEL_LIMIT
    → AllByRecursion (λ item. IsItem (IsNode room) (out-Item item)) items
    → AllByRecursion (IsApart room) (filter_map node_of items)
    → HaveApart (filter (λ node. holds_dos node.tag) (filter_map node_of items))
holders_apart room [] limit each apart = tt
holders_apart room (item ∷ items) limit each apart =
    one (out-Item item) each.0 apart (holders_apart room items limit each.1)
  where
    nodes : List Node
    nodes = filter_map node_of items

    one : (level : ItemLevel) → IsItem (IsNode room) level
        → AllByRecursion (IsApart room) (cons_option (node_from level) nodes)
        → (AllByRecursion (IsApart room) nodes
        → HaveApart (filter (λ node. holds_dos node.tag) nodes))
        → HaveApart (filter (λ node. holds_dos node.tag) (cons_option (node_from level) nodes))
    one (Item-F.Text parts) is apart rest = rest apart
    one (Item-F.Node node) is apart rest =
        holder_if (holds_dos node.tag) node (filter (λ node. holds_dos node.tag) nodes)
        (λ holds. names_apart room node limit is (apart.0 holds)) (rest apart.1)

-- ---- the deck

-- a deck that documents can mean
pub normal_root : (levels : ℕ) (node : Node) → levels ≡ LEVEL_LIMIT → IsBuilt levels node
    → IsNormal (record { root = node })
normal_root levels node limit built =
    let is : IsNode LEVEL_LIMIT node = (subst (λ levels. IsBuilt levels node) limit built).normal in
    record { attributes = is.attributes; content = is.content }

-- there is a card where there is one
some_card : (cards : List Built) → (cards ≡ [] → ⊥) → 0 < length (map (λ card. card.node) cards)
some_card [] some = absurd (some refl)
some_card (card ∷ cards) some = omega arith

-- a good deck
pub good_root : (top : Topped) (levels : ℕ) (node : Node) → levels ≡ LEVEL_LIMIT
    → IsBuilt levels node → node.tag ≡ tags.Wml → node.kids ≡ items_in top
    → AllByRecursion (IsApart (LEVEL_LIMIT - 1)) (filter_map node_of node.kids)
    → IsTop top → AreTaken top None → (top.cards ≡ [] → ⊥) → IsGood (record { root = node })
good_root top levels node limit given tag kids apart is are some =
    let built = subst (λ levels. IsBuilt levels node) limit given in
    let normal = normal_root levels node limit given in
    let cards : cards_of (record { root = node }) ≡ map (λ card. card.node) top.cards =
    ap (filter_map (node_with tags.Card)) kids ∙ cards_in top is in
    let ids : ids_of (record { root = node }) ≡ ids_in top.cards =
    ap (filter_map id_of) cards ∙ ids_with top.cards in
    record {
      root = tag;
      nodes = built.good;
      ids = subst AreDistinct (sym ids) (taken_distinct top are);
      names = holders_apart (LEVEL_LIMIT - 1) node.kids refl normal.content.each apart;
      card = subst (λ cards. 0 < length cards) (sym cards) (some_card top.cards some);
    }
