-- A deck without faults is good.
use Rattle.std.proofs.Common.{◌≡◌, ℕ, zero, suc, Bool, true, false, not, List, [], ◌∷◌, ◌++◌}
use Rattle.std.proofs.Common.{take, Option, Some, None, refl, sym, ap, subst, ◌∙◌, append_assoc}
use Rattle.std.specs.Prelude.{slice_get}
use Rattle.std.specs.List.{filter_map, flat_map, cons_option, list_any, AllByRecursion, IsDistinct}
use Rattle.std.specs.Option.{option_to_list}
use Rattle.std.proofs.lemmas.List.{append-nil}
use Rattle.std.proofs.lemmas.Bool.{or_parts, not-false}
use Rattle.wap_base.specs.Texts.{AreDistinct}
use Rattle.wap_tokens.specs.declared.markup.name.AttrName.{AttrName}
use Rattle.wap_tokens.specs.declared.markup.deck.Node.{Node}
use Rattle.wap_tokens.specs.declared.markup.deck.Item.{Item}
use Rattle.wap_tokens.specs.markup.Tables.{is_same_attr}
use Rattle.wap_tokens.specs.markup.Trees.{node_of, words_of}
use Rattle.wap_tokens.specs.markup.Good.{Rule, rule_of, stands, StandsAt, names_of}
use Rattle.wap_tokens.specs.markup.Good.{has_needs, has_forms, IsGoodNode, nodes_in}
use Rattle.wap_deckcheck.specs.declared.fault.DeckFault.{DeckFault}
use Rattle.wap_deckcheck.specs.declared.fault.DeckFault.TheVariants as fault
use Rattle.wap_deckcheck.specs.Places.{own_name, names_among, Level, path_behind}
use Rattle.wap_deckcheck.specs.Places.{items_places, names_level, node_places}
use Rattle.wap_deckcheck.specs.Faults.{is_misplaced, has_twice, is_taken, fault_if, own_faults}
use Rattle.wap_deckcheck.specs.inside.Walks.{judged, inner_faults, item_faults}
use Rattle.wap_deckcheck.proofs.Distinctness.{taken_last}
use Rattle.wap_deckcheck.proofs.Walking.{one_step, cons_to_list, names-append, names_none}

-- ---- no faults at all

pub fault_none : (b : Bool) (told : DeckFault) → fault_if b told ≡ [] → b ≡ false
fault_none true told none = absurd (cc none)
fault_none false told none = refl

pub both_none : (some more : List DeckFault) → some ++ more ≡ [] → (some ≡ []) × (more ≡ [])
both_none [] more none = (refl, none)
both_none (first ∷ some) more none = absurd (cc none)

-- ---- a node by itself

none_same : (one : AttrName) (names : List AttrName) → list_any (is_same_attr one) names ≡ false →
    AllByRecursion (λ other. is_same_attr one other ≡ false) names
none_same one [] none = tt
none_same one (other ∷ names) none =
    let both = or_parts (is_same_attr one other) (list_any (is_same_attr one) names) none in
    (both.0, none_same one names both.1)

once_each : (names : List AttrName) → has_twice names ≡ false → IsDistinct is_same_attr names
unfolding IsDistinct
once_each [] none = tt
once_each (one ∷ names) none =
    let both = or_parts (list_any (is_same_attr one) names) (has_twice names) none in
    (none_same one names both.0, once_each names both.1)

pub record IsSoundNode (node : Node) : Type 0 where
  pub once : IsDistinct is_same_attr (names_of node)
  pub whole : has_needs (rule_of node.tag) node ≡ true
  pub forms : has_forms node ≡ true

pub own_sound : (path : List ℕ) (node : Node) → own_faults path node ≡ [] → IsSoundNode node
own_sound path node none =
    let twice =
    both_none (fault_if (has_twice (names_of node)) (fault.Attr path))
    (fault_if (not (has_needs (rule_of node.tag) node)) (fault.Missing path)
    ++ fault_if (not (has_forms node)) (fault.Value path)) none in
    let others =
    both_none (fault_if (not (has_needs (rule_of node.tag) node)) (fault.Missing path))
    (fault_if (not (has_forms node)) (fault.Value path)) twice.1 in
    record {
      once =
          once_each (names_of node)
          (fault_none (has_twice (names_of node)) (fault.Attr path) twice.0);
      whole =
          not-false (has_needs (rule_of node.tag) node)
          (fault_none (not (has_needs (rule_of node.tag) node)) (fault.Missing path) others.0);
      forms =
          not-false (has_forms node)
          (fault_none (not (has_forms node)) (fault.Value path) others.1);
    }

-- ---- the items of a node

pub record IsSound (level : Level) (others : List (List ℕ)) (path : List ℕ)
    (node : Node) : Type 0 where
  pub own : IsSoundNode node
  pub apart : is_taken others (level.own node) ≡ false
  pub inner : judged (level.inner (others ++ option_to_list (level.own node)) path node) ≡ []

abbrev pub AnySound : Level → List (List ℕ) → List ℕ → Option Node → Type 0
AnySound level others path None = Unit {0}
AnySound level others path (Some node) = IsSound level others path node

pub record IsSoundItem (level : Level) (path : List ℕ) (rule : Rule) (earlier : List Item)
    (item : Item) : Type 0 where
  pub stands : stands rule earlier (node_of item) (words_of item) ≡ true
  pub node : AnySound level (level.others earlier) (path_behind path earlier) (node_of item)

abbrev pub AreSound : Level → List ℕ → Rule → List Item → List Item → Type 0
AreSound level path rule earlier [] = Unit {0}
AreSound level path rule earlier (item ∷ items) =
    IsSoundItem level path rule earlier item × AreSound level path rule (earlier ++ item ∷ []) items

any_sound : (level : Level) (others : List (List ℕ)) (path : List ℕ) (found : Option Node) →
    inner_faults level.own level.inner others path found ≡ [] → AnySound level others path found
any_sound level others path None none = tt
any_sound level others path (Some node) none =
    let inner : List DeckFault =
    judged (level.inner (others ++ option_to_list (level.own node)) path node) in
    let own =
    both_none (own_faults path node)
    (fault_if (is_taken others (level.own node)) (fault.DuplicateId path) ++ inner) none in
    let taken =
    both_none (fault_if (is_taken others (level.own node)) (fault.DuplicateId path)) inner own.1 in
    record {
      own = own_sound path node own.0;
      apart = fault_none (is_taken others (level.own node)) (fault.DuplicateId path) taken.0;
      inner = taken.1;
    }

pub items_sound : (level : Level) (path : List ℕ) (rule : Rule) (earlier items : List Item) →
    judged (items_places level path rule earlier items) ≡ [] →
    AreSound level path rule earlier items
items_sound level path rule earlier [] none = tt
items_sound level path rule earlier (item ∷ items) none =
    let here = path_behind path earlier in
    let others = level.others earlier in
    let step =
    both_none (item_faults level.own level.inner others here rule earlier item)
    (judged (items_places level path rule (earlier ++ item ∷ []) items))
    (sym (one_step level path rule earlier item items) ∙ none) in
    let child =
    both_none (fault_if (is_misplaced rule earlier item) (fault.Child here))
    (inner_faults level.own level.inner others here (node_of item)) step.0 in (
      record {
        stands =
            not-false (stands rule earlier (node_of item) (words_of item))
            (fault_none (is_misplaced rule earlier item) (fault.Child here) child.0);
        node = any_sound level others here (node_of item) child.1;
      },
      items_sound level path rule (earlier ++ item ∷ []) items step.1,
    )

-- ---- each item stands at its place

stands_at : (level : Level) (path : List ℕ) (rule : Rule) (earlier items : List Item) →
    AreSound level path rule earlier items → (i : ℕ) (item : Item) → slice_get items i ≡ Some item →
    stands rule (earlier ++ take i items) (node_of item) (words_of item) ≡ true
stands_at level path rule earlier [] sound i item is = absurd (cc is)
stands_at level path rule earlier (first ∷ items) sound zero item is =
    let same : first ≡ item = cc in
    ap (λ before. stands rule before (node_of item) (words_of item)) (append-nil earlier)
    ∙ ap (λ one. stands rule earlier (node_of one) (words_of one)) (sym same) ∙ sound.0.stands
stands_at level path rule earlier (first ∷ items) sound (suc i) item is =
    ap (λ before. stands rule before (node_of item) (words_of item))
    (sym (append_assoc earlier (first ∷ []) (take i items)))
    ∙ stands_at level path rule (earlier ++ first ∷ []) items sound.1 i item is

pub kids_stand : (level : Level) (path : List ℕ) (rule : Rule) (items : List Item) →
    AreSound level path rule [] items → (i : ℕ) → StandsAt rule items i
kids_stand level path rule items sound i item is =
    stands_at level path rule [] items sound i item is

-- ---- the nodes in a node

pub deeper_one : (levels : ℕ) (apart : Bool) (names : List (List ℕ)) (path : List ℕ) (node : Node) →
    node_places (suc levels) apart names path node
    ≡ items_places (names_level (node_places levels apart) apart (suc levels) names) path
    (rule_of node.tag) [] node.kids
unfolding node_places
deeper_one levels apart names path node = refl

each_append : {X : Type 0} (P : X → Type 0) (xs ys : List X) → AllByRecursion P xs →
    AllByRecursion P ys → AllByRecursion P (xs ++ ys)
each_append P [] ys some more = more
each_append P (x ∷ xs) ys some more = (some.0, each_append P xs ys some.1 more)

pub record IsWellKept (levels : ℕ) (node : Node) : Type 0 where
  pub children : (i : ℕ) → StandsAt (rule_of node.tag) node.kids i
  pub below : AllByRecursion IsGoodNode (nodes_in levels node.kids)

pub good_one : (levels : ℕ) (node : Node) → IsSoundNode node → IsWellKept levels node →
    AllByRecursion IsGoodNode (node ∷ nodes_in levels node.kids)
good_one levels node own kept = (
  record { children = kept.children; once = own.once; whole = own.whole; forms = own.forms },
  kept.below,
)

-- what is known of the nodes of fewer levels
abbrev Kept : Level → ℕ → Type 0
Kept level levels =
    (names : List (List ℕ)) (path : List ℕ) (node : Node) →
    judged (level.inner names path node) ≡ [] → IsWellKept levels node

any_good : (level : Level) (levels : ℕ) → Kept level levels → (others : List (List ℕ))
    (path : List ℕ) (found : Option Node) (rest : List Node) → AnySound level others path found →
    AllByRecursion IsGoodNode (flat_map (λ node. node ∷ nodes_in levels node.kids) rest) →
    AllByRecursion IsGoodNode
    (flat_map (λ node. node ∷ nodes_in levels node.kids) (cons_option found rest))
any_good level levels kept others path None rest sound more = more
any_good level levels kept others path (Some node) rest sound more =
    let here =
    good_one levels node sound.own
    (kept (others ++ option_to_list (level.own node)) path node sound.inner) in (
      here.0,
      each_append IsGoodNode (nodes_in levels node.kids)
          (flat_map (λ node. node ∷ nodes_in levels node.kids) rest) here.1 more,
    )

pub items_good : (level : Level) (levels : ℕ) → Kept level levels →
    (path : List ℕ) (rule : Rule) (earlier items : List Item) →
    AreSound level path rule earlier items → AllByRecursion IsGoodNode (nodes_in (suc levels) items)
items_good level levels kept path rule earlier [] sound = tt
items_good level levels kept path rule earlier (item ∷ items) sound =
    any_good level levels kept (level.others earlier) (path_behind path earlier) (node_of item)
    (filter_map node_of items) sound.0.node
    (items_good level levels kept path rule (earlier ++ item ∷ []) items sound.1)

pub node_kept : (levels : ℕ) (apart : Bool) (names : List (List ℕ)) (path : List ℕ) (node : Node) →
    judged (node_places (suc levels) apart names path node) ≡ [] → IsWellKept levels node
node_kept zero apart names path node none =
    let level = names_level (node_places 0 apart) apart 1 names in
    let sound =
    items_sound level path (rule_of node.tag) [] node.kids
    (sym (ap judged (deeper_one 0 apart names path node)) ∙ none) in
    record { children = kids_stand level path (rule_of node.tag) node.kids sound; below = tt }
node_kept (suc levels) apart names path node none =
    let level = names_level (node_places (suc levels) apart) apart (suc (suc levels)) names in
    let sound =
    items_sound level path (rule_of node.tag) [] node.kids
    (sym (ap judged (deeper_one (suc levels) apart names path node)) ∙ none) in
    record {
      children = kids_stand level path (rule_of node.tag) node.kids sound;
      below =
          items_good level levels (node_kept levels apart) path
          (rule_of node.tag) [] node.kids sound;
    }

-- ---- names

abbrev pub names_by : Bool → ℕ → Option Node → List (List ℕ)
names_by apart levels None = []
names_by apart levels (Some node) =
    option_to_list (own_name apart node) ++ names_among apart levels node.kids

names_of_one : (apart : Bool) (levels : ℕ) (found : Option Node) →
    filter_map (own_name apart)
    (flat_map (λ node. node ∷ nodes_in levels node.kids) (cons_option found []))
    ≡ names_by apart levels found
names_of_one apart levels None = refl
names_of_one apart levels (Some node) =
    cons_to_list (own_name apart node)
    (filter_map (own_name apart) (nodes_in levels node.kids ++ [])) ∙
    ap (λ nodes. option_to_list (own_name apart node) ++ filter_map (own_name apart) nodes)
    (append-nil (nodes_in levels node.kids))

pub names_with : (apart : Bool) (levels : ℕ) (names : List (List ℕ))
    (earlier : List Item) (item : Item) →
    names ++ names_among apart (suc levels) (earlier ++ item ∷ [])
    ≡ (names ++ names_among apart (suc levels) earlier) ++ names_by apart levels (node_of item)
names_with apart levels names earlier item =
    ap (λ more. names ++ more) (names-append apart (suc levels) earlier (item ∷ []) ∙ ap (λ more.
    names_among apart (suc levels) earlier ++ more) (names_of_one apart levels (node_of item))) ∙
    sym (append_assoc names (names_among apart (suc levels) earlier)
    (names_by apart levels (node_of item)))

abbrev Apart : Bool → ℕ → Type 0
Apart apart levels =
    (names : List (List ℕ)) (path : List ℕ) (node : Node) →
    judged (node_places levels apart names path node) ≡ [] → AreDistinct names →
    AreDistinct (names ++ names_among apart levels node.kids)

any_apart : (apart : Bool) (levels : ℕ) (all : ℕ) (names : List (List ℕ)) → Apart apart levels →
    (others : List (List ℕ)) (path : List ℕ) (found : Option Node) →
    AnySound (names_level (node_places levels apart) apart all names) others path found →
    AreDistinct others → AreDistinct (others ++ names_by apart levels found)
any_apart apart levels all names inner others path None sound distinct =
    subst AreDistinct (sym (append-nil others)) distinct
any_apart apart levels all names inner others path (Some node) sound distinct =
    let own = option_to_list (own_name apart node) in
    subst AreDistinct (append_assoc others own (names_among apart levels node.kids)) (inner (others
    ++ own) path node sound.inner (taken_last others (own_name apart node) sound.apart distinct))

items_apart : (apart : Bool) (levels : ℕ) (names : List (List ℕ)) → Apart apart levels →
    (path : List ℕ) (rule : Rule) (earlier items : List Item) →
    AreSound (names_level (node_places levels apart) apart (suc levels) names)
    path rule earlier items →
    AreDistinct (names ++ names_among apart (suc levels) earlier) →
    AreDistinct (names ++ names_among apart (suc levels) (earlier ++ items))
items_apart apart levels names inner path rule earlier [] sound distinct =
    subst (λ items. AreDistinct (names ++ names_among apart (suc levels) items))
    (sym (append-nil earlier)) distinct
items_apart apart levels names inner path rule earlier (item ∷ items) sound distinct =
    let one =
    any_apart apart levels (suc levels) names inner (names ++ names_among apart
    (suc levels) earlier) (path_behind path earlier) (node_of item) sound.0.node distinct in
    subst (λ items. AreDistinct (names ++ names_among apart (suc levels) items))
    (append_assoc earlier (item ∷ []) items)
    (items_apart apart levels names inner path rule (earlier ++ item ∷ []) items sound.1
    (subst AreDistinct (sym (names_with apart levels names earlier item)) one))

pub node_apart : (levels : ℕ) (apart : Bool) → Apart apart levels
node_apart zero apart names path node none distinct =
    subst AreDistinct (sym (append-nil names)) distinct
node_apart (suc levels) apart names path node none distinct =
    let sound =
    items_sound (names_level (node_places levels apart) apart (suc levels) names) path
    (rule_of node.tag) [] node.kids
    (sym (ap judged (deeper_one levels apart names path node)) ∙ none) in
    items_apart apart levels names (node_apart levels apart) path
    (rule_of node.tag) [] node.kids sound (subst AreDistinct
    (sym (ap (λ more. names ++ more) (names_none apart (suc levels)) ∙ append-nil names)) distinct)
