-- A good deck has no faults.
use Rattle.std.proofs.Common.{◌≡◌, ℕ, zero, suc, ◌<◌, ◌≤◌, Bool, true, false, not, cond, ◌||◌}
use Rattle.std.proofs.Common.{List, [], ◌∷◌, ◌++◌, length, take, Option, Some, None, refl}
use Rattle.std.proofs.Common.{sym, ap, subst, ◌∙◌, append_assoc, arith}
use Rattle.std.specs.Prelude.{◌≢◌, filter, slice_get, Result, Ok, Err, IfErr}
use Rattle.std.specs.List.{filter_map, flat_map, cons_option, list_any, AllByRecursion, IsDistinct}
use Rattle.std.specs.Option.{option_to_list}
use Rattle.std.proofs.lemmas.List.{append-nil}
use Rattle.wap_base.specs.Texts.{AreDistinct}
use Rattle.wap_tokens.specs.declared.markup.name.AttrName.{AttrName}
use Rattle.wap_tokens.specs.declared.markup.document.TheConstants.{LEVEL_LIMIT}
use Rattle.wap_tokens.specs.declared.markup.deck.Deck.{Deck}
use Rattle.wap_tokens.specs.declared.markup.deck.Node.{Node}
use Rattle.wap_tokens.specs.declared.markup.deck.Item.{Item, out-Item}
use Rattle.wap_tokens.specs.declared.markup.deck.Item.TheOpen.{Item-F}
use Rattle.wap_tokens.specs.declared.markup.name.Tag.TheVariants as tags
use Rattle.wap_tokens.specs.markup.Tables.{is_same_tag, is_same_attr}
use Rattle.wap_tokens.specs.markup.Trees.{ItemLevel, node_from, node_of, words_of}
use Rattle.wap_tokens.specs.markup.Cards.{cards_of}
use Rattle.wap_tokens.specs.markup.Good.{Rule, rule_of, stands, StandsAt, names_of, has_needs}
use Rattle.wap_tokens.specs.markup.Good.{has_forms}
use Rattle.wap_tokens.specs.markup.Good.{IsGoodNode, nodes_in, names_of_dos, holds_dos, IsGood}
use Rattle.wap_tokens.specs.markup.Normal.{IsItem, IsNode, IsNormal}
use Rattle.wap_deckcheck.specs.declared.fault.DeckFault.{DeckFault}
use Rattle.wap_deckcheck.specs.declared.fault.DeckFault.TheVariants as fault
use Rattle.wap_deckcheck.specs.Places.{own_id, ids_among, own_name, names_among, Place, Level}
use Rattle.wap_deckcheck.specs.Places.{path_behind, items_places, names_level, node_places, places}
use Rattle.wap_deckcheck.specs.Faults.{is_misplaced, has_twice, is_taken, fault_if}
use Rattle.wap_deckcheck.specs.Faults.{own_faults, lacks_card, faults, first_fault, Judges}
use Rattle.wap_deckcheck.specs.inside.Walks.{judged, inner_faults}
use Rattle.wap_deckcheck.proofs.Distinctness.{taken_no_more, distinct_before}
use Rattle.wap_deckcheck.proofs.Walking.{no_deeper, one_step, names-append, ids-append}
use Rattle.wap_deckcheck.proofs.Soundness.{deeper_one, names_by, names_with}
use Rattle.wap_deckcheck.proofs.GoodDecks.{none_distinct, id_alone, same_ids, same_names}

-- ---- no faults at all

none_if : (b : Bool) (told : DeckFault) → b ≡ false → fault_if b told ≡ []
none_if b told is = ap (λ b. fault_if b told) is

none_both : (some more : List DeckFault) → some ≡ [] → more ≡ [] → some ++ more ≡ []
none_both some more first second = ap (λ all. all ++ more) first ∙ second

no_same : (one : AttrName) (names : List AttrName) →
    AllByRecursion (λ other. is_same_attr one other ≡ false) names →
    list_any (is_same_attr one) names ≡ false
no_same one [] each = refl
no_same one (other ∷ names) each =
    ap (λ b. b || list_any (is_same_attr one) names) each.0 ∙ no_same one names each.1

not_twice : (names : List AttrName) → IsDistinct is_same_attr names → has_twice names ≡ false
unfolding IsDistinct
not_twice [] once = refl
not_twice (one ∷ names) once =
    ap (λ b. b || has_twice names) (no_same one names once.0) ∙ not_twice names once.1

own_none : (path : List ℕ) (node : Node) → IsGoodNode node → own_faults path node ≡ []
own_none path node good =
    none_both (fault_if (has_twice (names_of node)) (fault.Attr path))
    (fault_if (not (has_needs (rule_of node.tag) node)) (fault.Missing path)
    ++ fault_if (not (has_forms node)) (fault.Value path))
    (none_if (has_twice (names_of node)) (fault.Attr path) (not_twice (names_of node) good.once))
    (none_both (fault_if (not (has_needs (rule_of node.tag) node)) (fault.Missing path))
    (fault_if (not (has_forms node)) (fault.Value path))
    (none_if (not (has_needs (rule_of node.tag) node)) (fault.Missing path) (ap not good.whole))
    (none_if (not (has_forms node)) (fault.Value path) (ap not good.forms)))

-- ---- the items of a node

abbrev Stand : Rule → List Item → List Item → Type 0
Stand rule earlier items =
    (i : ℕ) (item : Item) → slice_get items i ≡ Some item →
    stands rule (earlier ++ take i items) (node_of item) (words_of item) ≡ true

stand_first : (rule : Rule) (earlier : List Item) (item : Item) (items : List Item) →
    Stand rule earlier (item ∷ items) → stands rule earlier (node_of item) (words_of item) ≡ true
stand_first rule earlier item items all =
    ap (λ before. stands rule before (node_of item) (words_of item)) (sym (append-nil earlier))
    ∙ all 0 item refl

stand_rest : (rule : Rule) (earlier : List Item) (item : Item) (items : List Item) →
    Stand rule earlier (item ∷ items) → Stand rule (earlier ++ item ∷ []) items
stand_rest rule earlier item items all i one is =
    ap (λ before. stands rule before (node_of one) (words_of one))
    (append_assoc earlier (item ∷ []) (take i items))
    ∙ all (suc i) one is

item_none : (level : Level) (path : List ℕ) (rule : Rule) (earlier : List Item) (item : Item)
    (items : List Item) → stands rule earlier (node_of item) (words_of item) ≡ true →
    inner_faults level.own level.inner (level.others earlier)
    (path_behind path earlier) (node_of item)
    ≡ [] →
    judged (items_places level path rule (earlier ++ item ∷ []) items) ≡ [] →
    judged (items_places level path rule earlier (item ∷ items)) ≡ []
item_none level path rule earlier item items place inner rest =
    let here = path_behind path earlier in
    let within : List DeckFault =
    inner_faults level.own level.inner (level.others earlier) here (node_of item) in
    one_step level path rule earlier item items ∙
    none_both (fault_if (is_misplaced rule earlier item) (fault.Child here) ++ within)
    (judged (items_places level path rule (earlier ++ item ∷ []) items))
    (none_both (fault_if (is_misplaced rule earlier item) (fault.Child here)) within
    (none_if (is_misplaced rule earlier item) (fault.Child here) (ap not place)) inner) rest

inner_none : (level : Level) (others : List (List ℕ)) (path : List ℕ) (node : Node) →
    IsGoodNode node → is_taken others (level.own node) ≡ false →
    judged (level.inner (others ++ option_to_list (level.own node)) path node) ≡ [] →
    inner_faults level.own level.inner others path (Some node) ≡ []
inner_none level others path node good apart inner =
    none_both (own_faults path node)
    (fault_if (is_taken others (level.own node)) (fault.DuplicateId path) ++ judged
    (level.inner (others ++ option_to_list (level.own node)) path node)) (own_none path node good)
    (none_both (fault_if (is_taken others (level.own node)) (fault.DuplicateId path))
    (judged (level.inner (others ++ option_to_list (level.own node)) path node))
    (none_if (is_taken others (level.own node)) (fault.DuplicateId path) apart) inner)

-- ---- the nodes in a node

each_before : {X : Type 0} (P : X → Type 0) (xs ys : List X) → AllByRecursion P (xs ++ ys) →
    AllByRecursion P xs
each_before P [] ys all = tt
each_before P (x ∷ xs) ys all = (all.0, each_before P xs ys all.1)

each_after : {X : Type 0} (P : X → Type 0) (xs ys : List X) → AllByRecursion P (xs ++ ys) →
    AllByRecursion P ys
each_after P [] ys all = all
each_after P (x ∷ xs) ys all = each_after P xs ys all.1

abbrev below : ℕ → Node → List Node
below levels node = node ∷ nodes_in levels node.kids

-- the first of some nodes, if there is one, and what is in it are good; and so are the others
first_good : (levels : ℕ) (node : Node) (rest : List Node) →
    AllByRecursion IsGoodNode (flat_map (below levels) (node ∷ rest)) →
    AllByRecursion IsGoodNode (below levels node)
first_good levels node rest all =
    each_before IsGoodNode (below levels node) (flat_map (below levels) rest) all

rest_good : (levels : ℕ) (found : Option Node) (rest : List Node) →
    AllByRecursion IsGoodNode (flat_map (below levels) (cons_option found rest)) →
    AllByRecursion IsGoodNode (flat_map (below levels) rest)
rest_good levels None rest all = all
rest_good levels (Some node) rest all =
    each_after IsGoodNode (below levels node) (flat_map (below levels) rest) all

abbrev Faultless : ℕ → Bool → Type 0
Faultless levels apart =
    (names : List (List ℕ)) (path : List ℕ) (node : Node) →
    ((i : ℕ) → StandsAt (rule_of node.tag) node.kids i) →
    AllByRecursion IsGoodNode (nodes_in levels node.kids) →
    AreDistinct (names ++ names_among apart levels node.kids) →
    judged (node_places levels apart names path node) ≡ []

any_none : (levels : ℕ) (apart : Bool) (all : ℕ) (names : List (List ℕ)) → Faultless levels apart →
    (others : List (List ℕ)) (path : List ℕ) (found : Option Node) (rest : List Node) →
    AllByRecursion IsGoodNode (flat_map (below levels) (cons_option found rest)) →
    AreDistinct (others ++ names_by apart levels found) →
    inner_faults (own_name apart) (node_places levels apart) others path found ≡ []
any_none levels apart all names inner others path None rest good distinct = refl
any_none levels apart all names inner others path (Some node) rest good distinct =
    let here = first_good levels node rest good in
    let own = option_to_list (own_name apart node) in
    let split : AreDistinct ((others ++ own) ++ names_among apart levels node.kids) =
    subst AreDistinct
    (sym (append_assoc others own (names_among apart levels node.kids))) distinct in
    inner_none (names_level (node_places levels apart) apart all names) others path node here.0
    (taken_no_more others (own_name apart node)
    (distinct_before (others ++ own) (names_among apart levels node.kids) split))
    (inner (others ++ own) path node here.0.children here.1 split)

items_none : (levels : ℕ) (apart : Bool) (names : List (List ℕ)) → Faultless levels apart →
    (path : List ℕ) (rule : Rule) (earlier items : List Item) → Stand rule earlier items →
    AllByRecursion IsGoodNode (nodes_in (suc levels) items) →
    AreDistinct (names ++ names_among apart (suc levels) (earlier ++ items)) → judged (items_places
    (names_level (node_places levels apart) apart (suc levels) names) path rule earlier items) ≡ []
items_none levels apart names inner path rule earlier [] all good distinct = refl
items_none levels apart names inner path rule earlier (item ∷ items) all good distinct =
    let level = names_level (node_places levels apart) apart (suc levels) names in
    let others = names ++ names_among apart (suc levels) earlier in
    let joined : AreDistinct
    (names ++ names_among apart (suc levels) ((earlier ++ item ∷ []) ++ items)) =
    subst (λ items. AreDistinct (names ++ names_among apart (suc levels) items))
    (sym (append_assoc earlier (item ∷ []) items)) distinct in
    let cut : AreDistinct ((names ++ names_among apart (suc levels) (earlier ++ item ∷ []))
    ++ names_among apart (suc levels) items) =
    subst AreDistinct
    (ap (λ more. names ++ more) (names-append apart (suc levels) (earlier ++ item ∷ []) items)
    ∙ sym (append_assoc names (names_among apart (suc levels) (earlier ++ item ∷ []))
    (names_among apart (suc levels) items))) joined in
    let here : AreDistinct (others ++ names_by apart levels (node_of item)) =
    subst AreDistinct (names_with apart levels names earlier item)
    (distinct_before (names ++ names_among apart (suc levels) (earlier ++ item ∷ []))
    (names_among apart (suc levels) items) cut) in
    item_none level path rule earlier item items (stand_first rule earlier item items all)
    (any_none levels apart (suc levels) names inner others (path_behind path earlier) (node_of item)
    (filter_map node_of items) good here)
    (items_none levels apart names inner path rule (earlier ++ item ∷ []) items
    (stand_rest rule earlier item items all)
    (rest_good levels (node_of item) (filter_map node_of items) good) joined)

node_none : (levels : ℕ) (apart : Bool) → Faultless levels apart
node_none zero apart names path node children good distinct = no_deeper apart names path node
node_none (suc levels) apart names path node children good distinct =
    ap judged (deeper_one levels apart names path node)
    ∙ items_none levels apart names (node_none levels apart) path (rule_of node.tag) [] node.kids
    (λ i item is. children i item is) good distinct

-- ---- normal decks have so many levels alone

abbrev AreItems : ℕ → List Item → Type 0
AreItems levels items = AllByRecursion (λ item. IsItem (IsNode levels) (out-Item item)) items

-- nodes of fewer levels have nothing deeper
abbrev Same : ℕ → ℕ → Type 0
Same levels more =
    (items : List Item) → AreItems levels items → nodes_in (suc more) items ≡ nodes_in more items

kids_same : (levels more : ℕ) → Same levels more → (node : Node) → IsNode (suc levels) node →
    nodes_in (suc more) node.kids ≡ nodes_in more node.kids
kids_same levels more same node is = same node.kids is.content.each

level_same : (levels more : ℕ) → Same levels more →
    (level : ItemLevel) (rest : List Node) → IsItem (IsNode (suc levels)) level →
    flat_map (below (suc more)) rest ≡ flat_map (below more) rest →
    flat_map (below (suc more)) (cons_option (node_from level) rest)
    ≡ flat_map (below more) (cons_option (node_from level) rest)
level_same levels more same (Item-F.Text parts) rest is others = others
level_same levels more same (Item-F.Node node) rest is others =
    ap (λ nodes. (node ∷ nodes) ++ flat_map (below (suc more)) rest)
    (kids_same levels more same node is)
    ∙ ap (λ nodes. below more node ++ nodes) others

items_same : (levels more : ℕ) → Same levels more → (items : List Item) →
    AreItems (suc levels) items → nodes_in (suc (suc more)) items ≡ nodes_in (suc more) items
items_same levels more same [] are = refl
items_same levels more same (item ∷ items) are =
    level_same levels more same (out-Item item) (filter_map node_of items) are.0
    (items_same levels more same items are.1)

level_none : (f : Node → List Node) (level : ItemLevel) (rest : List Node) →
    IsItem (IsNode 0) level → flat_map f rest ≡ [] →
    flat_map f (cons_option (node_from level) rest) ≡ []
level_none f (Item-F.Text parts) rest is others = others
level_none f (Item-F.Node node) rest is others = absurd is

items_nothing : (f : Node → List Node) (items : List Item) → AreItems 0 items →
    flat_map f (filter_map node_of items) ≡ []
items_nothing f [] are = refl
items_nothing f (item ∷ items) are =
    level_none f (out-Item item) (filter_map node_of items) are.0 (items_nothing f items are.1)

same_levels : (levels more : ℕ) → levels ≤ more → Same levels more
same_levels zero zero few items are = items_nothing (below 0) items are
same_levels zero (suc more) few items are =
    items_nothing (below (suc more)) items are ∙ sym (items_nothing (below more) items are)
same_levels (suc levels) zero few items are = absurd (omega arith)
same_levels (suc levels) (suc more) few items are =
    items_same levels more (same_levels levels more (omega arith)) items are

-- ---- right under the root

abbrev inner_top : ℕ → List (List ℕ) → List ℕ → Node → List Place
inner_top limit ids path node = node_places limit (holds_dos node.tag) [] path node

abbrev level_top : ℕ → Level
level_top limit = record { own = own_id; others = ids_among; inner = inner_top limit }

names_false : (nodes : List Node) → filter_map (own_name false) nodes ≡ []
names_false [] = refl
names_false (node ∷ nodes) = names_false nodes

holder_distinct : (limit : ℕ) (holds : Bool) (node : Node) →
    (holds ≡ true → AreDistinct (filter_map (own_name true) (nodes_in limit node.kids))) →
    AreDistinct (names_among holds limit node.kids)
holder_distinct limit true node distinct = distinct refl
holder_distinct limit false node distinct =
    subst AreDistinct (sym (names_false (nodes_in limit node.kids))) none_distinct

abbrev Named : ℕ → Node → Type 0
Named limit node = AreDistinct (filter_map (own_name true) (nodes_in limit node.kids))

abbrev AreNamed : ℕ → List Node → Type 0
AreNamed limit nodes = AllByRecursion (Named limit) (filter (λ node. holds_dos node.tag) nodes)

named_first : (limit : ℕ) (holds : Bool) (node : Node) (rest : List Node) →
    AllByRecursion (Named limit) (cond holds (node ∷ rest) rest) → holds ≡ true → Named limit node
named_first limit true node rest named is = named.0
named_first limit false node rest named is = absurd (cc is)

named_if : (limit : ℕ) (holds : Bool) (node : Node) (rest : List Node) →
    AllByRecursion (Named limit) (cond holds (node ∷ rest) rest) → AllByRecursion (Named limit) rest
named_if limit true node rest named = named.1
named_if limit false node rest named = named

named_rest : (limit : ℕ) (found : Option Node) (rest : List Node) →
    AreNamed limit (cons_option found rest) → AreNamed limit rest
named_rest limit None rest named = named
named_rest limit (Some node) rest named =
    named_if limit (holds_dos node.tag) node (filter (λ node. holds_dos node.tag) rest) named

top_none : (b : ℕ) (others : List (List ℕ)) (path : List ℕ) (level : ItemLevel) (rest : List Node) →
    IsItem (IsNode (suc b)) level →
    AllByRecursion IsGoodNode (flat_map (below (suc b)) (cons_option (node_from level) rest)) →
    AreDistinct (others ++ filter_map own_id (cons_option (node_from level) [])) →
    AreNamed (suc (suc b)) (cons_option (node_from level) rest) →
    inner_faults own_id (inner_top (suc (suc b))) others path (node_from level) ≡ []
top_none b others path (Item-F.Text parts) rest is good ids named = refl
top_none b others path (Item-F.Node node) rest is good ids named =
    let limit = suc (suc b) in
    let here = first_good (suc b) node rest good in
    let deep : AllByRecursion IsGoodNode (nodes_in limit node.kids) =
    subst (AllByRecursion IsGoodNode)
    (sym (same_levels b (suc b) (omega arith) node.kids is.content.each)) here.1 in
    let apart =
    holder_distinct limit (holds_dos node.tag) node (named_first limit (holds_dos node.tag) node
    (filter (λ node. holds_dos node.tag) rest) named) in
    inner_none (level_top limit) others path node here.0 (taken_no_more others (own_id node)
    (subst (λ ids. AreDistinct (others ++ ids)) (id_alone (own_id node)) ids))
    (node_none limit (holds_dos node.tag) [] path node here.0.children deep apart)

tops_none : (b : ℕ) (path : List ℕ) (rule : Rule) (earlier items : List Item) →
    AreItems (suc b) items → Stand rule earlier items →
    AllByRecursion IsGoodNode (nodes_in (suc (suc b)) items) →
    AreDistinct (ids_among (earlier ++ items)) →
    AreNamed (suc (suc b)) (filter_map node_of items) →
    judged (items_places (level_top (suc (suc b))) path rule earlier items) ≡ []
tops_none b path rule earlier [] are all good ids named = refl
tops_none b path rule earlier (item ∷ items) are all good ids named =
    let level = level_top (suc (suc b)) in
    let joined : AreDistinct (ids_among ((earlier ++ item ∷ []) ++ items)) =
    subst (λ items. AreDistinct (ids_among items))
    (sym (append_assoc earlier (item ∷ []) items)) ids in
    let cut : AreDistinct (ids_among (earlier ++ item ∷ []) ++ ids_among items) =
    subst AreDistinct (ids-append (earlier ++ item ∷ []) items) joined in
    let here : AreDistinct (ids_among earlier ++ ids_among (item ∷ [])) =
    subst AreDistinct (ids-append earlier (item ∷ []))
    (distinct_before (ids_among (earlier ++ item ∷ [])) (ids_among items) cut) in
    item_none level path rule earlier item items (stand_first rule earlier item items all)
    (top_none b (ids_among earlier) (path_behind path earlier) (out-Item item)
    (filter_map node_of items) are.0 good here named)
    (tops_none b path rule (earlier ++ item ∷ []) items are.1 (stand_rest rule earlier item items
    all) (rest_good (suc b) (node_of item) (filter_map node_of items) good) joined
    (named_rest (suc (suc b)) (node_of item) (filter_map node_of items) named))

-- ---- decks

all_named : (nodes : List Node) → AllByRecursion (λ node. AreDistinct (names_of_dos node)) nodes →
    AllByRecursion (Named LEVEL_LIMIT) nodes
all_named [] each = tt
all_named (node ∷ nodes) each = (
  subst AreDistinct (sym (same_names (nodes_in LEVEL_LIMIT node.kids))) each.0,
  all_named nodes each.1,
)

has_card : (cards : List Node) → 0 < length cards → lacks_card cards ≡ false
has_card [] some = absurd (omega arith)
has_card (card ∷ cards) some = refl

pub no_faults_where_good : (deck : Deck) → IsNormal deck → IsGood deck → faults deck ≡ []
no_faults_where_good deck normal good =
    let root = deck.root in
    let tops : judged (places deck) ≡ [] =
    tops_none 62 [] (rule_of root.tag) [] root.kids normal.content.each
    (λ i item is. good.nodes.0.children i item is) good.nodes.1
    (subst AreDistinct (sym (same_ids root.kids)) good.ids)
    (all_named (filter (λ node. holds_dos node.tag) (filter_map node_of root.kids)) good.names) in
    none_both (fault_if (not (is_same_tag root.tag tags.Wml)) (fault.Child [])) (own_faults [] root
    ++ (judged (places deck) ++ fault_if (lacks_card (cards_of deck)) fault.NoCard))
    (none_if (not (is_same_tag root.tag tags.Wml)) (fault.Child [])
    (ap (λ tag. not (is_same_tag tag tags.Wml)) good.root))
    (none_both (own_faults [] root) (judged (places deck)
    ++ fault_if (lacks_card (cards_of deck)) fault.NoCard) (own_none [] root good.nodes.0)
    (none_both (judged (places deck)) (fault_if (lacks_card (cards_of deck)) fault.NoCard) tops
    (none_if (lacks_card (cards_of deck)) fault.NoCard (has_card (cards_of deck) good.card))))

pub first_is_bad : (deck : Deck) (told : DeckFault) → IsNormal deck →
    first_fault (faults deck) ≡ Some told → IsGood deck → ⊥
first_is_bad deck told normal first good =
    let none = ap first_fault (no_faults_where_good deck normal good) in
    cc

pub refused_is_bad : {X : Type 0} (deck : Deck) (result : Result X DeckFault) → IsNormal deck
    → Judges result (faults deck) → IfErr result (λ told. told ≢ fault.NoMemory → ¬ IsGood deck)
refused_is_bad deck (Ok x) normal judges = tt
refused_is_bad deck (Err told) normal judges =
    λ other good. first_is_bad deck told normal (judges other) good
