-- Decks that documents mean are normal, and of texts where the documents' strings are texts.
use Rattle.std.proofs.Common.{◌≡◌, ◌≢◌, ℕ, zero, suc, ◌-◌, List, [], ◌∷◌, ◌++◌, Option}
use Rattle.std.proofs.Common.{Some, None, refl, sym, subst, inl, inr}
use Rattle.std.specs.List.{filter_map, cons_option, AllByRecursion}
use Rattle.std.specs.Option.{option_and_then}
use Rattle.std.specs.Str.{all_scalars}
use Rattle.std.proofs.lemmas.Bool.{cases_Bool, cond-true, cond-false, and_from}
use lib.Utf8.{scalar}
use Rattle.wap_tokens.specs.declared.markup.document.TheConstants.{LEVEL_LIMIT}
use Rattle.wap_base.specs.Names.{is_name}
use Rattle.wap_base.specs.declared.name.Part.{Part}
use Rattle.wap_base.specs.declared.name.Part.TheVariants.{Lit, Var}
use Rattle.wap_base.specs.declared.name.Conv.{Conv}
use Rattle.wap_tokens.specs.declared.markup.document.Document.{Document}
use Rattle.wap_tokens.specs.declared.markup.document.Element.{Element}
use Rattle.wap_tokens.specs.declared.markup.document.Attr.{Attr}
use Rattle.wap_tokens.specs.declared.markup.document.Piece.{Piece}
use Rattle.wap_tokens.specs.declared.markup.document.Piece.TheVariants as piece
use Rattle.wap_tokens.specs.declared.markup.document.Token.{Token}
use Rattle.wap_tokens.specs.declared.markup.document.Token.TheVariants.{Code, Literal}
use Rattle.wap_tokens.specs.declared.markup.document.Kid.{Kid, out-Kid}
use Rattle.wap_tokens.specs.declared.markup.document.Kid.TheOpen.{Kid-F}
use Rattle.wap_tokens.specs.declared.markup.deck.Node.{Node}
use Rattle.wap_tokens.specs.declared.markup.deck.Item.{Item, out-Item}
use Rattle.wap_tokens.specs.declared.markup.deck.Item.TheOpen.{Item-F}
use Rattle.wap_tokens.specs.declared.markup.deck.Item.TheVariants.{outs-Text, outs-Node}
use Rattle.wap_tokens.specs.declared.markup.deck.Item.TheVariants as item
use Rattle.wap_tokens.specs.declared.markup.name.Tag.{Tag}
use Rattle.wap_tokens.specs.declared.markup.name.Tag.TheVariants as tags
use Rattle.wap_tokens.specs.declared.markup.name.AttrName.{AttrName}
use Rattle.wap_tokens.specs.markup.Tables.{Start, attr_value}
use Rattle.wap_tokens.specs.markup.Trees.{ItemLevel, words_from}
use Rattle.wap_tokens.specs.markup.Decks.{literal, character, reference, before, joined, piece_part}
use Rattle.wap_tokens.specs.markup.Decks.{value_after, start_of, attribute_from, attribute, Mark}
use Rattle.wap_tokens.specs.markup.Decks.{part, node, text_before, part_before, items_of}
use Rattle.wap_tokens.specs.markup.Decks.{part_marks, marks_from, KidLevel, kid_marks, kids_marks}
use Rattle.wap_tokens.specs.markup.Decks.{tag_in, element_from, element_marks, deck_of}
use Rattle.wap_tokens.specs.markup.Normal.{IsPart, IsAttribute, IsItem, IsElement, IsNode, IsNormal}
use Rattle.wap_tokens.proofs.TagTable.{tag_of-known, tag_named-known}
use Rattle.wap_wbxml.specs.spelling.Characters.{OfPart, OfAttr, OfItem, OfOpened, OfNode}
use Rattle.wap_wbxml.specs.spelling.Spellable.{IsString, FitsPiece, FitsAttr, FitsOpened, FitsKid}
use Rattle.wap_wbxml.specs.spelling.Spellable.{FitsElementOf, FitsElement, HasTexts}
use Rattle.wap_wbxml.proofs.SpellingLemmas.DeckLaws.{all_append}
use Rattle.wap_deck.proofs.DocumentsLemmas.Characters.{OfCharacters, text_append, value_text}
use Rattle.wap_deck.proofs.DocumentsLemmas.Characters.{start_text}
use Rattle.wap_deck.proofs.DocumentsLemmas.Together.{joined-joined, items_together}

-- ---- lists

all_map : {A : Type 0} (P R : A → Type 0) → ((x : A) → P x → R x) → (xs : List A)
    → AllByRecursion P xs → AllByRecursion R xs
all_map P R gives [] each = tt
all_map P R gives (x ∷ xs) each = (gives x each.0, all_map P R gives xs each.1)

-- ---- nodes of characters at all levels

abbrev OfAll : Node → Type 0
OfAll one = (levels : ℕ) → OfNode levels one

of_item : (levels : ℕ) (level : ItemLevel) → OfItem OfAll level → OfItem (OfNode levels) level
of_item levels (Item-F.Text parts) of = of
of_item levels (Item-F.Node one) of = of levels

of_all : (one : Node) → AllByRecursion OfAttr one.attrs → AllByRecursion (OfOpened OfAll) one.kids
    → (levels : ℕ) → OfNode levels one
unfolding OfNode
of_all one attrs kids zero = tt
of_all one attrs kids (suc levels) = record {
  attrs = attrs;
  kids =
      all_map (OfOpened OfAll) (OfOpened (OfNode levels)) (λ one. of_item levels (out-Item one))
      one.kids kids;
}

-- ---- what holds of fewer levels holds of more

item_grown : (inner outer : Node → Type 0) → ((one : Node) → inner one → outer one)
    → (level : ItemLevel) → IsItem inner level → IsItem outer level
item_grown inner outer grows (Item-F.Text parts) is = is
item_grown inner outer grows (Item-F.Node one) is = grows one is

element_grown : (inner outer : Node → Type 0) → ((one : Node) → inner one → outer one)
    → (one : Node) → IsElement inner one → IsElement outer one
element_grown inner outer grows one is = record {
  known = is.known;
  attributes = is.attributes;
  content = record {
    each =
        all_map (λ item. IsItem inner (out-Item item)) (λ item. IsItem outer (out-Item item))
        (λ item. item_grown inner outer grows (out-Item item)) one.kids is.content.each;
    together = is.content.together;
  };
}

node_grown : (levels : ℕ) (one : Node) → IsNode levels one → IsNode (suc levels) one
node_grown zero one is = absurd is
node_grown (suc levels) one is =
    element_grown (IsNode levels) (IsNode (suc levels)) (node_grown levels) one is

-- ---- elements

tag_known : (page : ℕ) (token : Token) (tag : Tag) → tag_in page token ≡ Some tag → tag ≢ tags.Other
tag_known page (Code code) tag found = tag_of-known page code tag found
tag_known page (Literal name) tag found = tag_named-known name tag found

fits_inside : (levels : ℕ) (element : Element) → FitsElement IsString (suc levels) element
    → FitsElementOf IsString (FitsElement IsString levels) element
unfolding FitsElement
fits_inside levels element fits = fits

no_part : (a b : List ℕ) → a ≢ [] → a ++ b ≢ []
no_part [] b some none = absurd (some refl)
no_part (c ∷ a) b some none = absurd (cc none)

-- ---- documents whose strings are texts where some Q holds

module _ (Q : Type 0) where
  -- what holds of each, and more of it where Q holds
  abbrev Both : {A : Type 0} → (A → Type 0) → (A → Type 0) → A → Type 0
  Both P R x = P x × (Q → R x)

  both : {A : Type 0} (P R : A → Type 0) (xs : List A) → AllByRecursion (Both P R) xs
      → AllByRecursion P xs × (Q → AllByRecursion R xs)
  both P R [] each = (tt, λ q. tt)
  both P R (x ∷ xs) each =
      let rest = both P R xs each.1 in ((each.0.0, rest.0), λ q. (each.0.1 q, rest.1 q))

  both_each : {A : Type 0} (P R : A → Type 0) (xs : List A) → AllByRecursion P xs
      → (Q → AllByRecursion R xs) → AllByRecursion (Both P R) xs
  both_each P R [] each of = tt
  both_each P R (x ∷ xs) each of =
      ((each.0, λ q. (of q).0), both_each P R xs each.1 (λ q. (of q).1))

  -- ---- parts

  abbrev IsOne : Part → Type 0
  IsOne one = Both IsPart OfPart one

  abbrev IsAny : Option Part → Type 0
  IsAny None = Unit {0}
  IsAny (Some one) = IsOne one

  literal_any : (text : List ℕ) → (Q → OfCharacters text) → IsAny (literal text)
  literal_any [] of = tt
  literal_any (c ∷ cs) of = (λ none. absurd (cc none), of)

  character_any : (number : ℕ) → IsAny (character number)
  character_any number = elim (cases_Bool (scalar number)) [
    | inl is ↦
        subst IsAny (sym (cond-true (scalar number) (Some (Lit (number ∷ []))) None is))
        (λ none. absurd (cc none), λ q. and_from (scalar number) (all_scalars []) is refl)
    | inr isnt ↦
        subst IsAny (sym (cond-false (scalar number) (Some (Lit (number ∷ []))) None isnt)) tt
  ]

  reference_any : (name : List ℕ) (conv : Conv) → IsAny (reference name conv)
  reference_any name conv = elim (cases_Bool (is_name name)) [
    | inl is ↦
        subst IsAny (sym (cond-true (is_name name) (Some (Var name conv)) None is)) (is, λ q. tt)
    | inr isnt ↦
        subst IsAny (sym (cond-false (is_name name) (Some (Var name conv)) None isnt)) tt
  ]

  coded_any : (found : Option (List ℕ))
      → ((text : List ℕ) → found ≡ Some text → OfCharacters text)
      → IsAny (option_and_then literal found)
  coded_any None are = tt
  coded_any (Some text) are = literal_any text (λ q. are text refl)

  piece_any : (one : Piece) → (Q → FitsPiece IsString one) → IsAny (piece_part one)
  piece_any (piece.Code page code) fits = coded_any (attr_value page code) (value_text page code)
  piece_any (piece.Str text) fits = literal_any text (λ q. (fits q).1)
  piece_any (piece.Entity number) fits = character_any number
  piece_any (piece.Var name conv) fits = reference_any name conv
  piece_any (piece.Ext index) fits = tt
  piece_any (piece.Opaque bytes) fits = tt

  cons_any : (first : Option Part) (parts : List Part) → IsAny first → AllByRecursion IsOne parts
      → AllByRecursion IsOne (cons_option first parts)
  cons_any None parts is each = each
  cons_any (Some first) parts is each = (is, each)

  pieces_are_parts : (pieces : List Piece) → (Q → AllByRecursion (FitsPiece IsString) pieces)
      → AllByRecursion IsOne (filter_map piece_part pieces)
  pieces_are_parts [] fit = tt
  pieces_are_parts (one ∷ pieces) fit =
      cons_any (piece_part one) (filter_map piece_part pieces) (piece_any one (λ q. (fit q).0))
      (pieces_are_parts pieces (λ q. (fit q).1))

  before_each : (first : Part) (parts : List Part) → IsOne first → AllByRecursion IsOne parts
      → AllByRecursion IsOne (before first parts)
  before_each (Lit a) [] is each = (is, tt)
  before_each (Lit a) (Lit b ∷ parts) is each =
      ((no_part a b is.0, λ q. text_append a b (is.1 q) (each.0.1 q)), each.1)
  before_each (Lit a) (Var name conv ∷ parts) is each = (is, each)
  before_each (Var name conv) parts is each = (is, each)

  joined_each : (parts : List Part) → AllByRecursion IsOne parts
      → AllByRecursion IsOne (joined parts)
  joined_each [] each = tt
  joined_each (first ∷ parts) each =
      before_each first (joined parts) each.0 (joined_each parts each.1)

  -- ---- attributes

  abbrev IsAttr : AttrName × List Part → Type 0
  IsAttr attr = Both IsAttribute OfAttr attr

  begun_is : (attr : AttrName) (text : List ℕ) → (Q → OfCharacters text) → (value : List Piece)
      → (Q → AllByRecursion (FitsPiece IsString) value) → IsAttr (attr, value_after text value)
  begun_is attr text of value fit =
      let parts = cons_option (literal text) (filter_map piece_part value) in
      let are =
      both IsPart OfPart (joined parts)
      (joined_each parts (cons_any (literal text) (filter_map piece_part value)
      (literal_any text of) (pieces_are_parts value fit))) in
      (record { each = are.0; together = joined-joined parts }, are.1)

  attribute_more : (start : Option Start)
      → ((found : Start) → start ≡ Some found → OfCharacters found.1) → (value : List Piece)
      → (Q → AllByRecursion (FitsPiece IsString) value) → (others : List (AttrName × List Part))
      → AllByRecursion IsAttr others
      → AllByRecursion IsAttr (cons_option (attribute_from start value) others)
  attribute_more None are value fit others each = each
  attribute_more (Some start) are value fit others each =
      (begun_is start.0 start.1 (λ q. are start refl) value fit, each)

  attributes_are : (attrs : List Attr) → (Q → AllByRecursion (FitsAttr IsString) attrs)
      → AllByRecursion IsAttr (filter_map attribute attrs)
  attributes_are [] fit = tt
  attributes_are (attr ∷ attrs) fit =
      attribute_more (start_of attr.page attr.start) (start_text attr.page attr.start) attr.value
      (λ q. (fit q).0.value) (filter_map attribute attrs) (attributes_are attrs (λ q. (fit q).1))

  -- ---- items

  abbrev IsLevel : ℕ → ItemLevel → Type 0
  IsLevel levels level = Both (IsItem (IsNode levels)) (OfItem OfAll) level

  abbrev IsOpened : ℕ → Item → Type 0
  IsOpened levels one = IsLevel levels (out-Item one)

  abbrev IsMark : ℕ → Mark → Type 0
  IsMark levels (part first) = IsOne first
  IsMark levels (node first) = IsNode levels first × (Q → OfAll first)

  text_opened : (levels : ℕ) (parts : List Part) → AllByRecursion IsOne parts
      → IsOpened levels (item.Text parts)
  text_opened levels parts each =
      subst (IsLevel levels) (sym (outs-Text parts)) (both IsPart OfPart parts each)

  before_opened : (levels : ℕ) (first : Part) (level : ItemLevel) (next : Item) (items : List Item)
      → IsOne first → IsLevel levels level → AllByRecursion (IsOpened levels) (next ∷ items)
      → AllByRecursion (IsOpened levels) (text_before first next (words_from level) items)
  before_opened levels first (Item-F.Text parts) next items is are each = (
    text_opened levels (before first parts)
        (before_each first parts is (both_each IsPart OfPart parts are.0 are.1)),
    each.1,
  )
  before_opened levels first (Item-F.Node one) next items is one_is each =
      (text_opened levels (first ∷ []) (is, tt), each)

  part_before_each : (levels : ℕ) (first : Part) (items : List Item) → IsOne first
      → AllByRecursion (IsOpened levels) items
      → AllByRecursion (IsOpened levels) (part_before first items)
  part_before_each levels first [] is each = (text_opened levels (first ∷ []) (is, tt), tt)
  part_before_each levels first (next ∷ items) is each =
      before_opened levels first (out-Item next) next items is each.0 each

  items_each : (levels : ℕ) (marks : List Mark) → AllByRecursion (IsMark levels) marks
      → AllByRecursion (IsOpened levels) (items_of marks)
  items_each levels [] each = tt
  items_each levels (part first ∷ marks) each =
      part_before_each levels first (items_of marks) each.0 (items_each levels marks each.1)
  items_each levels (node first ∷ marks) each =
      (subst (IsLevel levels) (sym (outs-Node first)) each.0, items_each levels marks each.1)

  content_are : (levels : ℕ) (marks : List Mark) → AllByRecursion (IsMark levels) marks
      → AllByRecursion (λ one. IsItem (IsNode levels) (out-Item one)) (items_of marks)
      × (Q → AllByRecursion (OfOpened OfAll) (items_of marks))
  content_are levels marks each =
      both (λ one. IsItem (IsNode levels) (out-Item one)) (OfOpened OfAll) (items_of marks)
      (items_each levels marks each)

  mark_grown : (levels : ℕ) (mark : Mark) → IsMark levels mark → IsMark (suc levels) mark
  mark_grown levels (part first) is = is
  mark_grown levels (node first) is = (node_grown levels first is.0, is.1)

  -- ---- elements

  any_mark : (levels : ℕ) (one : Option Part) → IsAny one
      → AllByRecursion (IsMark levels) (part_marks one)
  any_mark levels None is = tt
  any_mark levels (Some one) is = (is, tt)

  module _ (levels : ℕ) (Fits : Element → Type 0) (inner : Element → List Mark)
      (are : (element : Element) → (Q → Fits element)
      → AllByRecursion (IsMark levels) (inner element)) where
    kid_marks_are : (level : KidLevel) → (Q → FitsOpened IsString Fits level)
        → AllByRecursion (IsMark levels) (marks_from inner level)
    kid_marks_are (Kid-F.Element element) fits = are element fits
    kid_marks_are (Kid-F.Str text) fits =
        any_mark levels (literal text) (literal_any text (λ q. (fits q).1))
    kid_marks_are (Kid-F.Entity number) fits =
        any_mark levels (character number) (character_any number)
    kid_marks_are (Kid-F.Var name conv) fits =
        any_mark levels (reference name conv) (reference_any name conv)
    kid_marks_are _ fits = tt

    kids_marks_are : (kids : List Kid) → (Q → AllByRecursion (FitsKid IsString Fits) kids)
        → AllByRecursion (IsMark levels) (kids_marks inner kids)
    kids_marks_are [] fit = tt
    kids_marks_are (kid ∷ kids) fit =
        all_append (IsMark levels) (kid_marks inner kid) (kids_marks inner kids)
        (kid_marks_are (out-Kid kid) (λ q. (fit q).0)) (kids_marks_are kids (λ q. (fit q).1))

  element_are : (levels : ℕ) (attrs : List Attr) → (Q → AllByRecursion (FitsAttr IsString) attrs)
      → (content : List Mark) (found : Option Tag)
      → ((tag : Tag) → found ≡ Some tag → tag ≢ tags.Other)
      → AllByRecursion (IsMark levels) content
      → AllByRecursion (IsMark (suc levels)) (element_from found attrs content)
  element_are levels attrs fit content None known each =
      all_map (IsMark levels) (IsMark (suc levels)) (mark_grown levels) content each
  element_are levels attrs fit content (Some tag) known each =
      let attributes =
      both IsAttribute OfAttr (filter_map attribute attrs) (attributes_are attrs fit) in
      let items = content_are levels content each in
      let one : Node =
      record { tag = tag; attrs = filter_map attribute attrs; kids = items_of content } in
      let is : IsNode (suc levels) one =
      record {
        known = known tag refl;
        attributes = attributes.0;
        content = record { each = items.0; together = items_together content };
      } in
      ((is, λ q. of_all one (attributes.1 q) (items.1 q)), tt)

  element_marks_are : (levels : ℕ) (element : Element) → (Q → FitsElement IsString levels element)
      → AllByRecursion (IsMark levels) (element_marks levels element)
  element_marks_are zero element fits = tt
  element_marks_are (suc levels) element fits =
      element_are levels element.attrs (λ q. (fits_inside levels element (fits q)).attrs)
      (kids_marks (element_marks levels) element.kids)
      (tag_in element.page element.tag) (tag_known element.page element.tag)
      (kids_marks_are levels (FitsElement IsString levels) (element_marks levels)
      (element_marks_are levels) element.kids
      (λ q. (fits_inside levels element (fits q)).kids))

  deck_is : (document : Document) → (Q → HasTexts document)
      → IsNormal (deck_of document) × (Q → OfAll (deck_of document).root)
  deck_is document texts =
      let levels = LEVEL_LIMIT - 1 in
      let root = document.root in
      let content = kids_marks (element_marks levels) root.kids in
      let attributes =
      both IsAttribute OfAttr (filter_map attribute root.attrs)
      (attributes_are root.attrs (λ q. (fits_inside levels root (texts q)).attrs)) in
      let items =
      content_are levels content
      (kids_marks_are levels (FitsElement IsString levels) (element_marks levels)
      (element_marks_are levels) root.kids (λ q. (fits_inside levels root (texts q)).kids)) in
      let normal : IsNormal (deck_of document) =
      record {
        attributes = attributes.0;
        content = record { each = items.0; together = items_together content };
      } in
      (normal, λ q. of_all (deck_of document).root (attributes.1 q) (items.1 q))

pub deck_is_normal : (document : Document) → IsNormal (deck_of document)
deck_is_normal document = (deck_is ⊥ document (λ q. absurd q)).0

-- the deck's texts are of characters, as the document's strings are
pub deck_texts : (document : Document) → HasTexts document
    → OfNode LEVEL_LIMIT (deck_of document).root
deck_texts document texts = (deck_is (Unit {0}) document (λ q. texts)).1 tt LEVEL_LIMIT
