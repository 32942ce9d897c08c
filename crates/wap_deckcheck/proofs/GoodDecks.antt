-- A deck without faults is good.
use Rattle.std.proofs.Common.{◌≡◌, ℕ, ◌-◌, ◌<◌, Bool, true, false, not, cond, List, [], ◌∷◌, ◌++◌}
use Rattle.std.proofs.Common.{length, Option, Some, None, refl, sym, ap, subst, append_assoc, arith}
use Rattle.std.specs.Prelude.{filter}
use Rattle.std.specs.List.{filter_map, cons_option, AllByRecursion, IsDistinct}
use Rattle.std.specs.Option.{option_to_list}
use Rattle.std.proofs.lemmas.List.{append-nil}
use Rattle.std.proofs.lemmas.Bool.{not-false}
use denote.Enum.Bare.{same_true}
use Rattle.wap_base.specs.Texts.{AreDistinct}
use Rattle.wap_tokens.specs.declared.markup.document.TheConstants.{LEVEL_LIMIT}
use Rattle.wap_tokens.specs.declared.markup.deck.Deck.{Deck}
use Rattle.wap_tokens.specs.declared.markup.deck.Node.{Node}
use Rattle.wap_tokens.specs.declared.markup.deck.Item.{Item}
use Rattle.wap_tokens.specs.contracts.markup.name.Tag as type
use Rattle.wap_tokens.specs.declared.markup.name.Tag.TheVariants as tags
use Rattle.wap_tokens.specs.markup.Tables.{is_same_tag}
use Rattle.wap_tokens.specs.markup.Trees.{node_of, if_tagged, node_with}
use Rattle.wap_tokens.specs.markup.Cards.{cards_of, id_of}
use Rattle.wap_tokens.specs.markup.Good.{Rule, rule_of, nodes_in, name_of_do}
use Rattle.wap_tokens.specs.markup.Good.{names_of_dos, holds_dos, IsGood}
use Rattle.wap_deckcheck.specs.declared.fault.DeckFault.TheVariants as fault
use Rattle.wap_deckcheck.specs.Places.{own_id, ids_among, own_name, Place, path_behind}
use Rattle.wap_deckcheck.specs.Places.{node_places, ids_level, places}
use Rattle.wap_deckcheck.specs.Faults.{fault_if, own_faults, lacks_card, faults}
use Rattle.wap_deckcheck.specs.inside.Walks.{judged}
use Rattle.wap_deckcheck.proofs.Distinctness.{taken_last}
use Rattle.wap_deckcheck.proofs.Walking.{ids-append}
use Rattle.wap_deckcheck.proofs.Soundness.{fault_none, both_none, own_sound, AnySound}
use Rattle.wap_deckcheck.proofs.Soundness.{AreSound, items_sound, kids_stand, items_good}
use Rattle.wap_deckcheck.proofs.Soundness.{node_kept, node_apart}

-- ---- ids

pub none_distinct : AreDistinct []
unfolding IsDistinct
none_distinct = tt

pub id_alone : (found : Option (List ℕ)) → cons_option found [] ≡ option_to_list found
id_alone None = refl
id_alone (Some id) = refl

any_id : (level_inner : List (List ℕ) → List ℕ → Node → List Place) (others : List (List ℕ))
    (path : List ℕ) (found : Option Node) →
    AnySound (record { own = own_id; others = ids_among; inner = level_inner }) others path found →
    AreDistinct others → AreDistinct (others ++ filter_map own_id (cons_option found []))
any_id inner others path None sound distinct = subst AreDistinct (sym (append-nil others)) distinct
any_id inner others path (Some node) sound distinct =
    subst (λ ids. AreDistinct (others ++ ids)) (sym (id_alone (own_id node)))
    (taken_last others (own_id node) sound.apart distinct)

items_ids : (inner : List (List ℕ) → List ℕ → Node → List Place) (path : List ℕ) (rule : Rule)
    (earlier items : List Item) →
    AreSound (record { own = own_id; others = ids_among; inner = inner }) path rule earlier items →
    AreDistinct (ids_among earlier) → AreDistinct (ids_among (earlier ++ items))
items_ids inner path rule earlier [] sound distinct =
    subst (λ items. AreDistinct (ids_among items)) (sym (append-nil earlier)) distinct
items_ids inner path rule earlier (item ∷ items) sound distinct =
    let one =
    any_id inner (ids_among earlier) (path_behind path earlier)
    (node_of item) sound.0.node distinct in
    subst (λ items. AreDistinct (ids_among items)) (append_assoc earlier (item ∷ []) items)
    (items_ids inner path rule (earlier ++ item ∷ []) items sound.1
    (subst AreDistinct (sym (ids-append earlier (item ∷ []))) one))

id_if : (card : Bool) (node : Node) (rest : List (List ℕ)) (found : List Node) →
    rest ≡ filter_map id_of found →
    cons_option (cond card (id_of node) None) rest
    ≡ filter_map id_of (cons_option (cond card (Some node) None) found)
id_if true node rest found same = ap (cons_option (id_of node)) same
id_if false node rest found same = same

ids_more : (found : Option Node) (nodes cards : List Node) →
    filter_map own_id nodes ≡ filter_map id_of cards →
    filter_map own_id (cons_option found nodes)
    ≡ filter_map id_of (cons_option (if_tagged tags.Card found) cards)
ids_more None nodes cards same = same
ids_more (Some node) nodes cards same =
    id_if (is_same_tag node.tag tags.Card) node (filter_map own_id nodes) cards same

pub same_ids : (items : List Item) →
    ids_among items ≡ filter_map id_of (filter_map (node_with tags.Card) items)
same_ids [] = refl
same_ids (item ∷ items) =
    ids_more (node_of item) (filter_map node_of items) (filter_map (node_with tags.Card) items)
    (same_ids items)

-- ---- names

name_if : (is_do : Bool) (node : Node) (rest : List (List ℕ)) (found : List Node) →
    rest ≡ filter_map name_of_do found →
    cons_option (cond is_do (name_of_do node) None) rest
    ≡ filter_map name_of_do (cond is_do (node ∷ found) found)
name_if true node rest found same = ap (cons_option (name_of_do node)) same
name_if false node rest found same = same

pub same_names : (nodes : List Node) →
    filter_map (own_name true) nodes
    ≡ filter_map name_of_do (filter (λ one. is_same_tag one.tag tags.Do) nodes)
same_names [] = refl
same_names (node ∷ nodes) =
    name_if (is_same_tag node.tag tags.Do) node (filter_map (own_name true) nodes)
    (filter (λ one. is_same_tag one.tag tags.Do) nodes) (same_names nodes)

holder_apart : (node : Node) (path : List ℕ) →
    judged (node_places LEVEL_LIMIT (holds_dos node.tag) [] path node) ≡ [] →
    holds_dos node.tag ≡ true → AreDistinct (names_of_dos node)
holder_apart node path none holds =
    let apart = node_apart LEVEL_LIMIT (holds_dos node.tag) [] path node none none_distinct in
    subst AreDistinct (same_names (nodes_in LEVEL_LIMIT node.kids)) (subst
    (λ b. AreDistinct (filter_map (own_name b) (nodes_in LEVEL_LIMIT node.kids))) holds apart)

abbrev HaveApart : List Node → Type 0
HaveApart nodes = AllByRecursion (λ node. AreDistinct (names_of_dos node)) nodes

holder_if : (holds : Bool) (node : Node) (rest : List Node) →
    (holds ≡ true → AreDistinct (names_of_dos node)) → HaveApart rest →
    HaveApart (cond holds (node ∷ rest) rest)
holder_if true node rest apart more = (apart refl, more)
holder_if false node rest apart more = more

any_holder : (others : List (List ℕ)) (path : List ℕ) (found : Option Node) (nodes : List Node) →
    AnySound ids_level others path found → HaveApart (filter (λ node. holds_dos node.tag) nodes) →
    HaveApart (filter (λ node. holds_dos node.tag) (cons_option found nodes))
any_holder others path None nodes sound more = more
any_holder others path (Some node) nodes sound more =
    holder_if (holds_dos node.tag) node (filter (λ node. holds_dos node.tag) nodes)
    (holder_apart node path sound.inner) more

holders_apart : (path : List ℕ) (rule : Rule) (earlier items : List Item) →
    AreSound ids_level path rule earlier items →
    HaveApart (filter (λ node. holds_dos node.tag) (filter_map node_of items))
holders_apart path rule earlier [] sound = tt
holders_apart path rule earlier (item ∷ items) sound =
    any_holder (ids_among earlier) (path_behind path earlier) (node_of item) (filter_map node_of
    items) sound.0.node (holders_apart path rule (earlier ++ item ∷ []) items sound.1)

-- ---- decks

some_card : (cards : List Node) → lacks_card cards ≡ false → 0 < length cards
some_card [] so = absurd (cc so)
some_card (card ∷ cards) so = omega arith

pub good_without_faults : (deck : Deck) → faults deck ≡ [] → IsGood deck
good_without_faults deck none =
    let root = deck.root in
    let all =
    both_none (fault_if (not (is_same_tag root.tag tags.Wml)) (fault.Child [])) (own_faults [] root
    ++ (judged (places deck) ++ fault_if (lacks_card (cards_of deck)) fault.NoCard)) none in
    let own =
    both_none (own_faults [] root)
    (judged (places deck) ++ fault_if (lacks_card (cards_of deck)) fault.NoCard) all.1 in
    let inner =
    both_none (judged (places deck)) (fault_if (lacks_card (cards_of deck)) fault.NoCard) own.1 in
    let sound = items_sound ids_level [] (rule_of root.tag) [] root.kids inner.0 in
    let by_itself = own_sound [] root own.0 in
    record {
      root =
          same_true type.the_type tt root.tag tags.Wml (not-false (is_same_tag root.tag tags.Wml)
          (fault_none (not (is_same_tag root.tag tags.Wml)) (fault.Child []) all.0));
      nodes = (
        record {
          children = kids_stand ids_level [] (rule_of root.tag) root.kids sound;
          once = by_itself.once;
          whole = by_itself.whole;
          forms = by_itself.forms;
        },
        items_good ids_level (LEVEL_LIMIT - 1)
            (λ ids path node. node_kept (LEVEL_LIMIT - 1) (holds_dos node.tag) [] path node) []
            (rule_of root.tag) [] root.kids sound,
      );
      ids =
          subst AreDistinct (same_ids root.kids)
          (items_ids ids_level.inner [] (rule_of root.tag) [] root.kids sound none_distinct);
      names = holders_apart [] (rule_of root.tag) [] root.kids sound;
      card =
          some_card (cards_of deck) (fault_none (lacks_card (cards_of deck)) fault.NoCard inner.1);
    }
