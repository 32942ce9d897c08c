-- The document of a deck can be written, and its strings are texts where those of the deck are.
use Rattle.std.proofs.Common.{◌≡◌, ◌≢◌, ℕ, zero, suc, ◌-◌, ◌%◌, ◌^◌, ◌<◌, Bool, true, map, List, []}
use Rattle.std.proofs.Common.{◌∷◌, ◌++◌, Option, Some, None, refl, sym, subst, ltb-true, arith}
use Rattle.std.specs.Prelude.{◌&&◌, nat_lt}
use Rattle.std.specs.List.{fold, flat_map, list_all, AllByRecursion}
use Rattle.std.specs.Option.{option_and_then}
use Rattle.std.proofs.lemmas.Bool.{and_parts}
use Rattle.std.proofs.lemmas.List.Sums.{fold-append}
use Rattle.wap_base.specs.declared.name.Part.{Part}
use Rattle.wap_base.specs.declared.name.Part.TheVariants.{Lit, Var}
use Rattle.wap_tokens.specs.declared.markup.codes.TheConstants.{LITERAL}
use Rattle.wap_tokens.specs.declared.markup.document.TheConstants.{LEVEL_LIMIT}
use Rattle.wap_tokens.specs.declared.markup.document.Attr.{Attr}
use Rattle.wap_tokens.specs.declared.markup.document.Element.{Element}
use Rattle.wap_tokens.specs.declared.markup.document.Piece.{Piece}
use Rattle.wap_tokens.specs.declared.markup.document.Kid.{Kid, out-Kid}
use Rattle.wap_tokens.specs.declared.markup.document.Kid.TheOpen.{Kid-F}
use Rattle.wap_tokens.specs.declared.markup.document.Kid.TheVariants as kid
use Rattle.wap_tokens.specs.declared.markup.deck.Deck.{Deck}
use Rattle.wap_tokens.specs.declared.markup.deck.Node.{Node}
use Rattle.wap_tokens.specs.declared.markup.deck.Item.{Item, out-Item}
use Rattle.wap_tokens.specs.declared.markup.deck.Item.TheOpen.{Item-F}
use Rattle.wap_tokens.specs.declared.markup.name.Tag.{Tag}
use Rattle.wap_tokens.specs.declared.markup.name.Tag.TheVariants as tags
use Rattle.wap_tokens.specs.declared.markup.name.AttrName.{AttrName}
use Rattle.wap_tokens.specs.declared.markup.name.AttrName.TheVariants as attrs
use Rattle.wap_tokens.specs.markup.Grammar.{table_size}
use Rattle.wap_tokens.specs.markup.Tables.{is_same_start, tag_rows, code_of, name_rows}
use Rattle.wap_tokens.specs.markup.Tables.{name_of_attr}
use Rattle.wap_tokens.specs.markup.Tables.{Start, start_rows, code_by_start, code_of_start}
use Rattle.wap_tokens.specs.markup.Trees.{ItemLevel, plain_text}
use Rattle.wap_tokens.specs.markup.Normal.{IsPart, IsAttribute, IsItem, IsNode, IsNormal}
use Rattle.wap_tokens.specs.markup.Writing.{runs_of, run_piece, run_kid, part_pieces}
use Rattle.wap_tokens.specs.markup.Writing.{attr_without, whole_code, attr_with, attr_of}
use Rattle.wap_tokens.specs.markup.Writing.{part_kids, kids_from, item_kids, items_kids}
use Rattle.wap_tokens.specs.markup.Writing.{element_of, node_kids, document_of}
use Rattle.wap_tokens.proofs.Found.{found_passes}
use Rattle.wap_wbxml.specs.spelling.Characters.{OfPart, OfAttr, OfItem, OfOpened, OfNode}
use Rattle.wap_wbxml.specs.spelling.Names.{KidLevel, with_attr, with_opened}
use Rattle.wap_wbxml.specs.spelling.Names.{with_kid, with_element, names_of}
use Rattle.wap_wbxml.specs.spelling.Spellable.{HasNoZero, IsString, FitsPiece, FitsAttr, FitsOpened}
use Rattle.wap_wbxml.specs.spelling.Spellable.{FitsKid, FitsElement, IsSpellable, HasTexts}
use Rattle.wap_wbxml.proofs.SpellingLemmas.Kinds.{AreKind, without_zero, of_characters, RunFits}
use Rattle.wap_wbxml.proofs.SpellingLemmas.Kinds.{runs_fit}
use Rattle.wap_wbxml.proofs.SpellingLemmas.NameBounds.{among, Bounded, bounded_none, bounded_size}
use Rattle.wap_wbxml.proofs.SpellingLemmas.NameBounds.{bounded_with}

-- ---- the tables, computed

abbrev known_names : List (List ℕ)
known_names = map (λ row. row.1) name_rows

names_small : nat_lt (table_size known_names) (2 ^ 32) ≡ true
unfolding table_size name_rows
names_small = refl

pub tag_fits : (tag : Tag) → tag ≢ tags.Other
    → (nat_lt LITERAL (code_of tag) && nat_lt (code_of tag) 64) ≡ true
unfolding code_of tag_rows
tag_fits tags.Other known = absurd (known refl)
tag_fits tag known = refl

name_among : (attr : AttrName) → among (name_of_attr attr) known_names ≡ true
unfolding name_of_attr name_rows
name_among attrs.Align = refl
name_among attr = refl

abbrev is_start : Start × ℕ → Bool
is_start row = nat_lt LITERAL (row.1 % 64) && nat_lt row.1 128

starts_fit : list_all is_start (map code_by_start start_rows) ≡ true
unfolding start_rows
starts_fit = refl

-- the code of a start
abbrev StartFits : ℕ → Type 0
StartFits code = (LITERAL < code % 64) × (code < 128)

start_fits : (start : Start) (code : ℕ) → code_of_start start ≡ Some code → StartFits code
unfolding code_of_start
start_fits start code found =
    let row =
    found_passes (is_same_start start) is_start (map code_by_start start_rows) code starts_fit
    found in
    let fits = and_parts (nat_lt LITERAL (code % 64)) (nat_lt code 128) row.2 in
    (ltb-true LITERAL (code % 64) fits.0, ltb-true code 128 fits.1)

abbrev some_whole : AttrName → Option (List ℕ) → Option ℕ
some_whole attr text = option_and_then (λ text. code_of_start (attr, text)) text

whole_fits : (attr : AttrName) (text : Option (List ℕ)) (code : ℕ)
    → some_whole attr text ≡ Some code → StartFits code
whole_fits attr None code found = absurd cc
whole_fits attr (Some text) code found = start_fits (attr, text) code found

pub all_append : {A : Type 0} (P : A → Type 0) (a b : List A) → AllByRecursion P a
    → AllByRecursion P b → AllByRecursion P (a ++ b)
all_append P [] b one two = two
all_append P (x ∷ a) b one two = (one.0, all_append P a b one.1 two)

-- ---- strings of a kind, which those of texts are where some Q holds, and names always are

module _ (Is : List ℕ → Type 0) (Q : Type 0) (strings : AreKind Is Q) where
  -- ---- attributes

  run_pieces_fit : (runs : List (Option (List ℕ))) → AllByRecursion (RunFits Is) runs
      → AllByRecursion (FitsPiece Is) (map run_piece runs)
  run_pieces_fit [] fits = tt
  run_pieces_fit (None ∷ runs) fits = (refl, run_pieces_fit runs fits.1)
  run_pieces_fit (Some text ∷ runs) fits = (fits.0, run_pieces_fit runs fits.1)

  part_pieces_fit : (part : Part) → IsPart part → (Q → OfPart part)
      → AllByRecursion (FitsPiece Is) (part_pieces part)
  part_pieces_fit (Lit text) is of = run_pieces_fit (runs_of text) (runs_fit Is Q strings text of)
  part_pieces_fit (Var name conv) is of = (strings.name name is, tt)

  pieces_fit : (parts : List Part) → AllByRecursion IsPart parts
      → (Q → AllByRecursion OfPart parts)
      → AllByRecursion (FitsPiece Is) (flat_map part_pieces parts)
  pieces_fit [] are of = tt
  pieces_fit (part ∷ parts) are of =
      all_append (FitsPiece Is) (part_pieces part) (flat_map part_pieces parts)
      (part_pieces_fit part are.0 (λ q. (of q).0)) (pieces_fit parts are.1 (λ q. (of q).1))

  -- an attribute that fits, whose name is known if it has one
  record AttrGood (attr : Attr) : Type 0 where
    fits : FitsAttr Is attr
    keeps : (names : List (List ℕ)) → Bounded known_names names
        → Bounded known_names (with_attr names attr)

  without_good : (attr : AttrName) (whole : Option ℕ)
      → ((code : ℕ) → whole ≡ Some code → StartFits code)
      → (value : List Piece) → AllByRecursion (FitsPiece Is) value
      → AttrGood (attr_without whole attr value)
  without_good attr (Some code) are value fits = record {
    fits = record { start = are code refl; value = tt };
    keeps = λ names bounded. bounded;
  }
  without_good attr None are value fits = record {
    fits = record { start = strings.known attr; value = fits };
    keeps = λ names bounded.
        bounded_with known_names names (name_of_attr attr) (name_among attr) bounded;
  }

  with_good : (attr : AttrName) (own : Option ℕ)
      → ((code : ℕ) → own ≡ Some code → StartFits code)
      → (parts : List Part) → AllByRecursion (FitsPiece Is) (flat_map part_pieces parts)
      → AttrGood (attr_with own attr parts)
  with_good attr (Some code) are parts fits = record {
    fits = record { start = are code refl; value = fits };
    keeps = λ names bounded. bounded;
  }
  with_good attr None are parts fits =
      without_good attr (whole_code attr parts) (whole_fits attr (plain_text parts))
      (flat_map part_pieces parts) fits

  attr_good : (attribute : AttrName × List Part) → IsAttribute attribute
      → (Q → OfAttr attribute) → AttrGood (attr_of attribute)
  attr_good attribute is of =
      with_good attribute.0 (code_of_start (attribute.0, [])) (start_fits (attribute.0, []))
      attribute.1 (pieces_fit attribute.1 is.each of)

  attrs_fit : (attributes : List (AttrName × List Part)) → AllByRecursion IsAttribute attributes
      → (Q → AllByRecursion OfAttr attributes)
      → AllByRecursion (FitsAttr Is) (map attr_of attributes)
  attrs_fit [] are of = tt
  attrs_fit (attribute ∷ attributes) are of = (
    (attr_good attribute are.0 (λ q. (of q).0)).fits,
    attrs_fit attributes are.1 (λ q. (of q).1),
  )

  attrs_keep : (attributes : List (AttrName × List Part)) → AllByRecursion IsAttribute attributes
      → (Q → AllByRecursion OfAttr attributes) → (names : List (List ℕ))
      → Bounded known_names names
      → Bounded known_names (fold with_attr names (map attr_of attributes))
  attrs_keep [] are of names bounded = bounded
  attrs_keep (attribute ∷ attributes) are of names bounded =
      attrs_keep attributes are.1 (λ q. (of q).1) (with_attr names (attr_of attribute))
      ((attr_good attribute are.0 (λ q. (of q).0)).keeps names bounded)

  -- ---- content, its elements of so many levels

  record Good (levels : ℕ) (kids : List Kid) : Type 0 where
    fits : AllByRecursion (FitsKid Is (FitsElement Is levels)) kids
    keeps : (names : List (List ℕ)) → Bounded known_names names
        → Bounded known_names (fold (with_kid (with_element levels)) names kids)

  module _ (levels : ℕ) where
    good_none : Good levels []
    good_none = record { fits = tt; keeps = λ names bounded. bounded }

    good_more : (k : Kid) (level : KidLevel) → out-Kid k ≡ level
        → FitsOpened Is (FitsElement Is levels) level
        → ((names : List (List ℕ)) → Bounded known_names names
        → Bounded known_names (with_opened (with_element levels) names level))
        → (kids : List Kid) → Good levels kids → Good levels (k ∷ kids)
    good_more k level opened fits keeps kids good = record {
      fits =
          (subst (FitsOpened Is (FitsElement Is levels)) (sym opened) fits, good.fits);
      keeps = λ names bounded.
          good.keeps (with_kid (with_element levels) names k)
          (subst (λ (level : KidLevel).
          Bounded known_names (with_opened (with_element levels) names level)) (sym opened)
          (keeps names bounded));
    }

    good_append : (a b : List Kid) → Good levels a → Good levels b → Good levels (a ++ b)
    good_append a b one two = record {
      fits = all_append (FitsKid Is (FitsElement Is levels)) a b one.fits two.fits;
      keeps = λ names bounded.
          subst (Bounded known_names) (sym (fold-append (with_kid (with_element levels)) names a b))
          (two.keeps (fold (with_kid (with_element levels)) names a) (one.keeps names bounded));
    }

    runs_good : (runs : List (Option (List ℕ))) → AllByRecursion (RunFits Is) runs
        → Good levels (map run_kid runs)
    runs_good [] fits = good_none
    runs_good (None ∷ runs) fits =
        good_more (kid.Entity 0) (Kid-F.Entity 0) (kid.outs-Entity 0) refl
        (λ names bounded. bounded) (map run_kid runs) (runs_good runs fits.1)
    runs_good (Some text ∷ runs) fits =
        good_more (kid.Str text) (Kid-F.Str text) (kid.outs-Str text) fits.0
        (λ names bounded. bounded) (map run_kid runs) (runs_good runs fits.1)

    part_good : (part : Part) → IsPart part → (Q → OfPart part) → Good levels (part_kids part)
    part_good (Lit text) is of = runs_good (runs_of text) (runs_fit Is Q strings text of)
    part_good (Var name conv) is of =
        good_more (kid.Var name conv) (Kid-F.Var name conv) (kid.outs-Var name conv)
        (strings.name name is) (λ names bounded. bounded)
        [] good_none

    parts_good : (parts : List Part) → AllByRecursion IsPart parts
        → (Q → AllByRecursion OfPart parts) → Good levels (flat_map part_kids parts)
    parts_good [] are of = good_none
    parts_good (part ∷ parts) are of =
        good_append (part_kids part) (flat_map part_kids parts)
        (part_good part are.0 (λ q. (of q).0)) (parts_good parts are.1 (λ q. (of q).1))

    module _
        (nodes : (one : Node) → IsNode levels one → (Q → OfNode levels one)
        → Good levels (node_kids levels one)) where
      item_good : (level : ItemLevel) → IsItem (IsNode levels) level
          → (Q → OfItem (OfNode levels) level) → Good levels (kids_from (node_kids levels) level)
      item_good (Item-F.Text parts) is of = parts_good parts is of
      item_good (Item-F.Node one) is of = nodes one is of

      items_good : (items : List Item)
          → AllByRecursion (λ item. IsItem (IsNode levels) (out-Item item)) items
          → (Q → AllByRecursion (OfOpened (OfNode levels)) items)
          → Good levels (items_kids (node_kids levels) items)
      items_good [] are of = good_none
      items_good (item ∷ items) are of =
          good_append (item_kids (node_kids levels) item) (items_kids (node_kids levels) items)
          (item_good (out-Item item) are.0 (λ q. (of q).0)) (items_good items are.1 (λ q. (of q).1))

  -- an element of a node whose content is good
  record ElementGood (levels : ℕ) (element : Element) : Type 0 where
    fits : FitsElement Is (suc levels) element
    keeps : (names : List (List ℕ)) → Bounded known_names names
        → Bounded known_names (with_element (suc levels) names element)

  element_good : (levels : ℕ) (one : Node) → one.tag ≢ tags.Other
      → AllByRecursion IsAttribute one.attrs
      → AllByRecursion (λ item. IsItem (IsNode levels) (out-Item item)) one.kids
      → (Q → OfNode (suc levels) one)
      → ((one : Node) → IsNode levels one → (Q → OfNode levels one)
      → Good levels (node_kids levels one))
      → ElementGood levels (element_of one (items_kids (node_kids levels) one.kids))
  unfolding FitsElement with_element OfNode
  element_good levels one known attributes items of nodes =
      let code =
      and_parts (nat_lt LITERAL (code_of one.tag)) (nat_lt (code_of one.tag) 64)
      (tag_fits one.tag known) in
      let good = items_good levels nodes one.kids items (λ q. (of q).kids) in
      record {
        fits = record {
          tag = (ltb-true LITERAL (code_of one.tag) code.0, ltb-true (code_of one.tag) 64 code.1);
          attrs = attrs_fit one.attrs attributes (λ q. (of q).attrs);
          kids = good.fits;
        };
        keeps =
            λ names bounded. good.keeps (fold with_attr names (map attr_of one.attrs))
            (attrs_keep one.attrs attributes (λ q. (of q).attrs) names bounded);
      }

  node_good : (levels : ℕ) (one : Node) → IsNode levels one → (Q → OfNode levels one)
      → Good levels (node_kids levels one)
  node_good zero one is of = absurd is
  node_good (suc levels) one is of =
      let element = element_of one (items_kids (node_kids levels) one.kids) in
      let good =
      element_good levels one is.known is.attributes is.content.each of (node_good levels) in
      good_more (suc levels) (kid.Element element) (Kid-F.Element element)
      (kid.outs-Element element) good.fits good.keeps []
      (good_none (suc levels))

  -- the element of a deck's root
  root_good : (deck : Deck) → IsNormal deck → deck.root.tag ≢ tags.Other
      → (Q → OfNode LEVEL_LIMIT deck.root) → ElementGood (LEVEL_LIMIT - 1) (document_of deck).root
  root_good deck is known of =
      let levels = LEVEL_LIMIT - 1 in
      let same : suc (LEVEL_LIMIT - 1) ≡ LEVEL_LIMIT = omega arith in
      element_good levels deck.root known is.attributes is.content.each
      (λ q. subst (λ (l : ℕ). OfNode l deck.root) (sym same) (of q)) (node_good levels)

pub deck_spellable : (deck : Deck) → IsNormal deck → deck.root.tag ≢ tags.Other
    → IsSpellable (document_of deck)
deck_spellable deck is known =
    let good = root_good HasNoZero ⊥ without_zero deck is known (λ q. absurd q) in
    let names = good.keeps [] (bounded_none known_names) in
    let within = bounded_size known_names (names_of (document_of deck)) names in
    let small = ltb-true (table_size known_names) (2 ^ 32) names_small in
    record { public = refl; root = good.fits; names = omega arith }

-- and its strings are texts, where the deck's are
pub deck_fits : (deck : Deck) → IsNormal deck → deck.root.tag ≢ tags.Other
    → OfNode LEVEL_LIMIT deck.root → HasTexts (document_of deck)
deck_fits deck is known of =
    (root_good IsString (Unit {0}) of_characters deck is known (λ q. of)).fits
