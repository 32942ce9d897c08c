-- What is in the root that is put together: elements that get there, what is lost on the way, and
-- what the deck that is made has of the one that was given.
use Rattle.std.proofs.Common.{◌≡◌, ℕ, suc, ◌+◌, ◌-◌, ◌<◌, true, false}
use Rattle.std.proofs.Common.{List, [], ◌∷◌, ◌++◌, length, get_or, take, Option, Some, None}
use Rattle.std.proofs.Common.{refl, sym, ap, subst, ◌∙◌, arith}
use Rattle.std.specs.Prelude.{IfSome, is_some}
use Rattle.std.specs.List.{AllByRecursion}
use Rattle.std.specs.Option.{option_to_list}
use Rattle.std.proofs.lemmas.List.{take_more}
use mathlib.Core.Logic.{inl}
use Rattle.wap_base.specs.declared.name.Part.{Part}
use Rattle.wap_tokens.specs.declared.markup.document.TheConstants.{LEVEL_LIMIT}
use Rattle.wap_tokens.specs.declared.markup.deck.Node.{Node}
use Rattle.wap_tokens.specs.declared.markup.deck.Item.{Item, out-Item}
use Rattle.wap_tokens.specs.declared.markup.deck.Item.TheVariants.{outs-Text, outs-Node}
use Rattle.wap_tokens.specs.declared.markup.deck.Item.TheVariants as item
use Rattle.wap_tokens.specs.declared.markup.name.Tag.{Tag}
use Rattle.wap_tokens.specs.declared.markup.name.Tag.TheVariants as tags
use Rattle.wap_tokens.specs.markup.Normal.{IsNode}
use Rattle.wap_tokens.specs.markup.Good.{is_blank_text, nodes_in}
use Rattle.wap_mend.specs.Accounts.{signs, node_signs, signs_in, number}
use Rattle.wap_mend.specs.Accounts.{attributes_of, attributes_of_nodes, IsWithin, IsMadeOf}
use Rattle.wap_mend.specs.declared.change.Change.{Change}
use Rattle.wap_mend.specs.declared.change.Lost.{Lost}
use Rattle.wap_mend.specs.inside.Building.{Built, IsBuilt}
use Rattle.wap_mend.specs.inside.Frames.{Load, nothing, both, load_built, load_if, load_all}
use Rattle.wap_mend.specs.inside.Frames.{given_items, given_node, text_load, own_load, load_lost}
use Rattle.wap_mend.specs.inside.Frames.{rows_load, pieces_of_nodes}
use Rattle.wap_mend.specs.inside.Frames.{IsStill, IsNoted, Keeps}
use Rattle.wap_mend.specs.inside.Tops.{Topped, IsUnder, IsTop, items_with, items_in, load_top}
use Rattle.wap_mend.proofs.Accounting.{signs_blank, number-append}
use Rattle.wap_mend.proofs.Pieces.{on_elements, rows_elements, nodes_elements, gone_elements}
use Rattle.wap_mend.proofs.Pieces.{came_elements, on_attributes, rows_attributes}
use Rattle.wap_mend.proofs.Pieces.{nodes_attributes, gone_attributes_number, came_attributes}
use Rattle.wap_mend.proofs.Loads.{both_nothing, both_assoc, keeps_all, keeps_lost, keeps_still}
use Rattle.wap_mend.proofs.Loads.{keeps_then, keeps_first, keeps_second, still_refl, noted_as}
use Rattle.wap_mend.proofs.Framing.{node_levels}
use Rattle.wap_mend.proofs.Muteness.{is_mute, mute}
use Rattle.wap_mend.proofs.Putting.{keeps_made, keeps_gone, given_own}
use Rattle.wap_mend.proofs.Putting.{given_behind, given_text, given_one}

-- ---- elements that get to their places

-- a mute element has no signs
pub no_signs : (element : Built) (tag : Tag) → IsBuilt element.levels element.node
    → element.node.tag ≡ tag → is_mute tag ≡ true → (load_built element).signs ≡ []
no_signs element tag built is silent =
    mute element.levels element.node built.good (ap is_mute is ∙ silent)

-- there is none where a test says so
pub none_there : (found : Option Built) → is_some found ≡ false → found ≡ None
none_there None none = refl
none_there (Some element) none = absurd (cc none)

module _ (before after : List Change) (element : Built) (still : IsStill before after) where
  -- a head, where there was none
  pub head_added : (head : Option Built) (rest : Load) → head ≡ None
      → (load_built element).signs ≡ []
      → Keeps before after (both (load_if head) rest) (both (load_built element) rest)
      (load_built element)
  head_added head rest none silent =
      subst (λ found. Keeps before after (both (load_if found) rest)
      (both (load_built element) rest) (load_built element)) (sym none)
      (keeps_first before after nothing (load_built element) rest (load_built element)
      (keeps_all before after nothing (load_built element) still) (inl silent))

  -- a template
  pub template_added : (head template : Option Built) (rest : Load) → template ≡ None
      → (load_built element).signs ≡ []
      → Keeps before after (both (load_if head) (both (load_if template) rest))
      (both (load_if head) (both (load_built element) rest)) (load_built element)
  template_added head template rest none silent =
      keeps_second before after (load_if head) (both (load_if template) rest)
      (both (load_built element) rest) (load_built element)
      (head_added template rest none silent)

  -- a card behind the others
  all_behind : (cards : List Built)
      → load_all (cards ++ element ∷ []) ≡ both (load_all cards) (load_built element)
  all_behind [] = both_nothing (load_built element)
  all_behind (first ∷ cards) =
      ap (both (load_built first)) (all_behind cards)
      ∙ both_assoc (load_built first) (load_all cards) (load_built element)

  pub card_added : (head template : Option Built) (cards new : List Built)
      → new ≡ cards ++ element ∷ []
      → Keeps before after (both (load_if head) (both (load_if template) (load_all cards)))
      (both (load_if head) (both (load_if template) (load_all new))) (load_built element)
  card_added head template cards new is =
      keeps_second before after (load_if head) (both (load_if template) (load_all cards))
      (both (load_if template) (load_all new)) (load_built element)
      (keeps_second before after (load_if template) (load_all cards) (load_all new)
      (load_built element)
      (subst (λ load. Keeps before after (load_all cards) load (load_built element))
      (sym (ap load_all is ∙ all_behind cards))
      (keeps_all before after (load_all cards) (load_built element) still)))

-- ---- items of the walk

module _ (before after : List Change) (levels : ℕ) (one : Item) where
  -- a blank text has no signs
  pub blank_keeps : (load : Load) (parts : List Part) → one ≡ item.Text parts
      → is_blank_text parts ≡ true → IsStill before after
      → Keeps before after load load (given_items levels (one ∷ []))
  blank_keeps load parts is blank still =
      subst (Keeps before after load load)
      (sym (given_text levels one parts (ap out-Item is ∙ outs-Text parts)
      ∙ ap (λ (some : List Part). record { names = []; pieces = []; signs = some })
      (signs_blank parts blank)))
      (keeps_still before after load still)

  -- another text is noted as lost
  pub text_keeps : (load : Load) (parts : List Part) (what : Lost) → one ≡ item.Text parts
      → load_lost what ≡ text_load parts → IsNoted before after (load_lost what)
      → Keeps before after load load (given_items levels (one ∷ []))
  text_keeps load parts what is same noted =
      subst (Keeps before after load load)
      (sym (given_text levels one parts (ap out-Item is ∙ outs-Text parts)))
      (keeps_lost before after load (text_load parts)
      (noted_as before after (load_lost what) (text_load parts) same noted))

  -- an element is put
  pub node_keeps : (old new : Load) (node : Node) → one ≡ item.Node node
      → Keeps before after old new (given_node levels node)
      → Keeps before after old new (given_items levels (one ∷ []))
  node_keeps old new node is keeps =
      subst (Keeps before after old new)
      (sym (given_one levels one node (ap out-Item is ∙ outs-Node node))) keeps

-- one item more
pub turn_keeps : (before between after : List Change) (old mid new : Load) (levels : ℕ)
    (items : List Item) (n : ℕ) (one : Item) → n < length items → one ≡ get_or items n one
    → Keeps before between old mid (given_items levels (take n items))
    → Keeps between after mid new (given_items levels (one ∷ []))
    → Keeps before after old new (given_items levels (take (n + 1) items))
turn_keeps before between after old mid new levels items n one within is first next =
    subst (Keeps before after old new)
    (ap (λ last. both (given_items levels (take n items)) (given_items levels (last ∷ []))) is
    ∙ sym (given_behind levels (take n items) (get_or items n one ∷ []))
    ∙ ap (given_items levels) (sym (take_more items n one within)))
    (keeps_then before between after old mid new (given_items levels (take n items))
    (given_items levels (one ∷ [])) first next)

-- ---- elements of the walk

-- what is in an element is put in its place, which is noted
pub opened_keeps : (before between after : List Change) (old new : Load) (levels : ℕ) (node : Node)
    (kids : List Item) → IsNode levels node → IsNoted before between (own_load node)
    → kids ≡ node.kids → Keeps between after old new (given_items (levels - 1) kids)
    → Keeps before after old new (given_node levels node)
opened_keeps before between after old new levels node kids normal noted is keeps =
    subst (Keeps before after old new)
    (ap (λ some. both (own_load node) (given_items (levels - 1) some)) is
    ∙ given_own levels node (node_levels levels node normal))
    (keeps_then before between after old old new (own_load node)
    (given_items (levels - 1) kids) (keeps_lost before between old (own_load node) noted) keeps)

-- what holds where there is one holds of it
pub some_then : {X : Type 0} (P : X → Type 0) (found : Option X) (x : X) → found ≡ Some x
    → IfSome found P → P x
some_then P found x is holds = subst (λ some. IfSome some P) is holds

module _ (before : List Change) (old between : Load) (given : Load) (same : between ≡ old) where
  -- what is made of it is added
  pub element_keeps : (three after : List Change) (new made : Load)
      → Keeps before three nothing made given → Keeps three after between new made
      → Keeps before after old new given
  element_keeps three after new made makes adds =
      keeps_made before before three after old between new made given
      (subst (λ load. Keeps before before old load nothing) (sym same)
      (keeps_still before before old (still_refl before))) makes adds

  -- nothing is made of it
  pub none_keeps : (after : List Change) → Keeps before after nothing nothing given
      → Keeps before after old between given
  none_keeps after makes =
      keeps_gone before before after old between given
      (subst (λ load. Keeps before before old load nothing) (sym same)
      (keeps_still before before old (still_refl before))) makes

-- ---- the deck

-- without names
abbrev nameless : Load → Load
nameless load = record { names = []; pieces = load.pieces; signs = load.signs }

module _ (room : ℕ) (limit : room ≡ LEVEL_LIMIT - 1) where
  -- an element as an item
  given_element : (tag : Tag) (element : Built) → IsUnder tag element
      → given_items room (item.Node element.node ∷ []) ≡ nameless (load_built element)
  given_element tag element under =
      given_one room (item.Node element.node) element.node (outs-Node element.node)
      ∙ ap (λ levels. given_node levels element.node) (limit ∙ sym under.levels)

  given_if : (tag : Tag) (found : Option Built) → IfSome found (IsUnder tag)
      → given_items room (items_with (option_to_list found)) ≡ nameless (load_if found)
  given_if tag None under = refl
  given_if tag (Some element) under = given_element tag element under

  given_all : (tag : Tag) (all : List Built) → AllByRecursion (IsUnder tag) all
      → given_items room (items_with all) ≡ nameless (load_all all)
  given_all tag [] under = refl
  given_all tag (element ∷ all) under =
      given_behind room (item.Node element.node ∷ []) (items_with all)
      ∙ ap (λ first. both first (given_items room (items_with all)))
      (given_element tag element under.0)
      ∙ ap (both (nameless (load_built element))) (given_all tag all under.1)

  -- all in the root as items
  given_top : (top : Topped) → IsTop top
      → given_items room (items_in top) ≡ nameless (load_top top)
  given_top top is =
      let head = items_with (option_to_list top.head) in
      let template = items_with (option_to_list top.template) in
      given_behind room (head ++ template) (items_with top.cards)
      ∙ ap (λ first. both first (given_items room (items_with top.cards)))
      (given_behind room head template
      ∙ ap (λ first. both first (given_items room template)) (given_if tags.Head top.head is.head)
      ∙ ap (both (nameless (load_if top.head)))
      (given_if tags.Template top.template is.template))
      ∙ ap (both (both (nameless (load_if top.head)) (nameless (load_if top.template))))
      (given_all tags.Card top.cards is.cards)
      ∙ sym (both_assoc (nameless (load_if top.head)) (nameless (load_if top.template))
      (nameless (load_all top.cards)))

  -- the deck that is made has what is in the root
  pub deck_made : (before after : List Change) (top : Topped) (given made : Node)
      → suc room ≡ LEVEL_LIMIT
      → Keeps [] before nothing (rows_load tags.Wml made.attrs) (rows_load tags.Wml given.attrs)
      → IsTop top → made.kids ≡ items_in top
      → Keeps before after nothing (load_top top) (given_items room given.kids)
      → IsMadeOf (record { root = given }) after (record { root = made })
  deck_made before after top given made deep mends is kids keeps =
      let has : given_items room made.kids ≡ nameless (load_top top) =
      ap (given_items room) kids ∙ given_top top is in
      let made_signs : signs (record { root = made }) ≡ (load_top top).signs =
      ap (λ levels. node_signs levels made) (sym deep) ∙ ap (λ (load : Load). load.signs) has in
      let given_signs : signs (record { root = given }) ≡ signs_in room given.kids =
      ap (λ levels. node_signs levels given) (sym deep) in
      let made_pieces : pieces_of_nodes (nodes_in LEVEL_LIMIT made.kids) ≡ (load_top top).pieces =
      ap (λ levels. pieces_of_nodes (nodes_in levels made.kids)) (sym deep)
      ∙ ap (λ (load : Load). load.pieces) has in
      let given_pieces : pieces_of_nodes (nodes_in LEVEL_LIMIT given.kids)
      ≡ pieces_of_nodes (nodes_in (suc room) given.kids) =
      ap (λ levels. pieces_of_nodes (nodes_in levels given.kids)) (sym deep) in
      record {
        order =
            subst (λ some. IsWithin some (signs (record { root = given }))) (sym made_signs)
            (subst (IsWithin (load_top top).signs) (sym given_signs) keeps.order);
        all = λ test.
            grind (
              arith,
              mends.signs test,
              keeps.signs test,
              ap (number test) made_signs,
              ap (number test) given_signs,
            );
        elements = λ test.
            grind (
              arith,
              mends.pieces (on_elements test),
              keeps.pieces (on_elements test),
              rows_elements test tags.Wml made.attrs,
              rows_elements test tags.Wml given.attrs,
              ap (number (on_elements test)) made_pieces,
              ap (number (on_elements test)) given_pieces,
              nodes_elements test (nodes_in LEVEL_LIMIT made.kids),
              nodes_elements test (nodes_in LEVEL_LIMIT given.kids),
              gone_elements test after,
              came_elements test after,
            );
        attributes = λ test.
            grind (
              arith,
              mends.pieces (on_attributes test),
              keeps.pieces (on_attributes test),
              rows_attributes test tags.Wml made.attrs,
              rows_attributes test tags.Wml given.attrs,
              ap (number (on_attributes test)) made_pieces,
              ap (number (on_attributes test)) given_pieces,
              nodes_attributes test (nodes_in LEVEL_LIMIT made.kids),
              nodes_attributes test (nodes_in LEVEL_LIMIT given.kids),
              gone_attributes_number test after,
              came_attributes test after,
              number-append test (attributes_of tags.Wml made.attrs)
                  (attributes_of_nodes (nodes_in LEVEL_LIMIT made.kids)),
              number-append test (attributes_of tags.Wml given.attrs)
                  (attributes_of_nodes (nodes_in LEVEL_LIMIT given.kids)),
            );
      }
