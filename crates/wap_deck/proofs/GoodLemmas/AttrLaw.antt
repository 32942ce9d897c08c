-- Attributes are read as they are spelled.
use Rattle.std.proofs.Common.{◌≡◌, ◌≢◌, ℕ, ◌^◌, ◌<◌, true, false, eqb, List}
use Rattle.std.proofs.Common.{[], ◌∷◌, ◌++◌, length, Option, Some, None, refl, sym}
use Rattle.std.proofs.Common.{ap, subst, ◌∙◌, append_assoc, arith}
use Rattle.std.specs.Prelude.{encode_utf8_all}
use Rattle.std.specs.List.{flat_map, list_any, AllByRecursion}
use Rattle.std.specs.Option.{option_map}
use Rattle.std.proofs.lemmas.List.{drop_at}
use Rattle.std.proofs.lemmas.Bool.Decides.{nat_tests}
use lib.Utf8.{encode}
use Rattle.wap_base.specs.Numbers.{IsMb, mb_spelling}
use Rattle.wap_base.specs.Texts.{is_same_text}
use Rattle.wap_base.specs.declared.name.Part.{Part}
use Rattle.wap_base.proofs.NumberLaws.{mb_again}
use Rattle.wap_tokens.specs.declared.markup.codes.TheConstants.{END, ENTITY, STR_I, LITERAL}
use Rattle.wap_tokens.specs.declared.markup.codes.TheConstants.{EXT_I_0, EXT_I_1, EXT_I_2}
use Rattle.wap_tokens.specs.declared.markup.document.Attr.{Attr}
use Rattle.wap_tokens.specs.declared.markup.document.Piece.{Piece}
use Rattle.wap_tokens.specs.declared.markup.document.Token.{Token}
use Rattle.wap_tokens.specs.declared.markup.document.Token.TheVariants.{Code, Literal}
use Rattle.wap_tokens.specs.declared.markup.name.AttrName.{AttrName}
use Rattle.wap_tokens.specs.declared.markup.name.AttrName.TheVariants as names
use Rattle.wap_tokens.specs.markup.Grammar.{table_size}
use Rattle.wap_tokens.specs.markup.Strings.{string_from}
use Rattle.wap_tokens.specs.markup.Tables.{Start, start_rows, name_rows, attr_start}
use Rattle.wap_tokens.specs.markup.Tables.{attr_named, name_of_attr}
use Rattle.wap_tokens.specs.markup.Decks.{value_after, start_of, attribute_from}
use Rattle.wap_tokens.specs.markup.Normal.{IsAttribute}
use Rattle.wap_tokens.specs.markup.Writing.{part_pieces, attr_without, whole_code, attr_with}
use Rattle.wap_tokens.specs.markup.Writing.{attr_of}
use Rattle.wap_tokens.proofs.AttributeTable.{name}
use Rattle.wap_deck.proofs.DocumentsLemmas.Values.{attribute_read}
use Rattle.wap_wbxml.specs.spelling.Names.{table_of, place_of}
use Rattle.wap_wbxml.specs.spelling.Writings.{◌⨾◌, plain, each, on_attribute_page}
use Rattle.wap_wbxml.specs.spelling.Spelling.{start_spelling, piece_spelling, attr_spelling}
use Rattle.wap_wbxml.specs.spelling.Spelling.{first_pages}
use Rattle.wap_wbxml.proofs.SpellingLemmas.Strings.{indexed_read}
use Rattle.wap_wbxml.proofs.SpellingLemmas.Kinds.{known_name}
use Rattle.wap_deck.specs.good.Readers.{◌>>=◌, number_from, number_at, all_of}
use Rattle.wap_deck.specs.good.Texts.{part_at, value_at, behind_value}
use Rattle.wap_deck.specs.good.inside.Nodes.{named_at, start_at, attr_at}
use Rattle.wap_wbxml.specs.spelling.Characters.{OfAttr}
use Rattle.wap_deck.proofs.GoodLemmas.Runs.{all_on, all_end}
use Rattle.wap_deck.proofs.GoodLemmas.Taking.{attr_takes}
use Rattle.wap_deck.proofs.GoodLemmas.Flat.{Flat, flat_on, flat_each}
use Rattle.wap_deck.proofs.GoodLemmas.HeadLaw.{coded_start}
use Rattle.wap_deck.proofs.GoodLemmas.PartLaw.{IsPlain, piece_bytes, piece_flat}
use Rattle.wap_deck.proofs.GoodLemmas.PartLaw.{value_read, behind_read, parts_plain}

-- ---- numbers

pub number_is : (bytes rest : List ℕ) (number : ℕ) → IsMb bytes number
    → number_at (bytes ++ rest) ≡ Some (number, rest)
unfolding number_at
number_is bytes rest number is =
    let read = mb_again (bytes ++ rest) 0 number (length bytes)
    (record { bytes = bytes; rest = rest; split = refl; number_is = is; next_is = omega arith }) in
    ap (number_from (bytes ++ rest)) read ∙ ap (λ (l : List ℕ).
    let w : ℕ × List ℕ = (number, l) in Some w) (drop_at bytes rest (length bytes) refl)

-- ---- codes of starts

-- codes that start nothing
abbrev starts_none : ℕ → Type 0
starts_none code = attr_start 0 code ≡ None

end_none : starts_none END
unfolding attr_start start_rows
end_none = refl

literal_none : starts_none LITERAL
unfolding attr_start start_rows
literal_none = refl

entity_none : starts_none ENTITY
unfolding attr_start start_rows
entity_none = refl

string_none : starts_none STR_I
unfolding attr_start start_rows
string_none = refl

first_none : starts_none EXT_I_0
unfolding attr_start start_rows
first_none = refl

second_none : starts_none EXT_I_1
unfolding attr_start start_rows
second_none = refl

third_none : starts_none EXT_I_2
unfolding attr_start start_rows
third_none = refl

apart : (code other : ℕ) (start : Start) → attr_start 0 code ≡ Some start
    → starts_none other → code ≢ other
apart code other start found none same =
    let both : ◌≡◌ {A = Option Start} (Some start) None =
    sym found ∙ ap (attr_start 0) same ∙ none in
    absurd (cc both)

-- no part begins with such a byte
pub no_part : (mark : ℕ) (rest : List ℕ) → mark ≢ STR_I → mark ≢ ENTITY → mark ≢ EXT_I_0
    → mark ≢ EXT_I_1 → mark ≢ EXT_I_2 → part_at (mark ∷ rest) ≡ None
unfolding part_at
no_part mark rest a b c d e =
    let e3 : eqb mark STR_I ≡ false = grind (arith, nat_tests) in
    let e2 : eqb mark ENTITY ≡ false = grind (arith, nat_tests) in
    let e0 : eqb mark EXT_I_0 ≡ false = grind (arith, nat_tests) in
    let e1 : eqb mark EXT_I_1 ≡ false = grind (arith, nat_tests) in
    let e4 : eqb mark EXT_I_2 ≡ false = grind (arith, nat_tests) in
    rw (e3, e2, e0, e1, e4) refl

pub no_part_end : (rest : List ℕ) → part_at (END ∷ rest) ≡ None
unfolding part_at
no_part_end rest = refl

no_part_literal : (rest : List ℕ) → part_at (LITERAL ∷ rest) ≡ None
unfolding part_at
no_part_literal rest = refl

-- ---- the names of the table

abbrev pub IsNamed : List (List ℕ) → Token → Type 0
IsNamed all (Code code) = Unit {0}
IsNamed all (Literal spelled) = list_any (is_same_text spelled) all ≡ true

plain_name : (attr : AttrName) → encode_utf8_all (name_of_attr attr) ≡ name_of_attr attr
unfolding name_of_attr name_rows encode
plain_name names.Align = refl
plain_name attr = refl

module _ (all : List (List ℕ)) (size : table_size all < 2 ^ 32) where
  abbrev table : List ℕ
  table = table_of all

  named_read : (attr : AttrName) (rest : List ℕ) → attr_named (name_of_attr attr) ≡ Some attr
      → list_any (is_same_text (name_of_attr attr)) all ≡ true
      → named_at table (mb_spelling (place_of all (name_of_attr attr)) ++ rest)
      ≡ Some ((attr, []), rest)
  unfolding named_at
  named_read attr rest found among =
      let spelled = name_of_attr attr in
      let is = indexed_read all spelled size among (known_name attr) in
      let same : string_from table is.index ≡ spelled = sym is.text_is.1 ∙ plain_name attr in
      ap (λ (o : Option (ℕ × List ℕ)). o >>= λ x. attr_named (string_from table x.0) >>= λ attr.
      let w : Start × List ℕ = ((attr, []), x.1) in Some w)
      (number_is (mb_spelling (place_of all spelled)) rest is.index is.number)
      ∙ ap (λ (l : List ℕ).
      attr_named l >>= λ attr. let w : Start × List ℕ = ((attr, []), rest) in Some w) same
      ∙ ap (λ (o : Option AttrName).
      o >>= λ attr. let w : Start × List ℕ = ((attr, []), rest) in Some w) found

  -- a start is read, and no part begins with it
  pub record StartRead (token : Token) (start : Start) (rest : List ℕ) : Type 0 where
    pub read : start_at table (start_spelling all token ++ rest) ≡ Some (start, rest)
    pub none : part_at (start_spelling all token ++ rest) ≡ None

  literal_start : (attr : AttrName) (rest : List ℕ) → attr_named (name_of_attr attr) ≡ Some attr
      → list_any (is_same_text (name_of_attr attr)) all ≡ true
      → start_at table (LITERAL ∷ (mb_spelling (place_of all (name_of_attr attr)) ++ rest))
      ≡ Some ((attr, []), rest)
  unfolding start_at
  literal_start attr rest found among = named_read attr rest found among

  literal_read : (spelled : List ℕ) (found : Option AttrName) (start : Start) (rest : List ℕ)
      → IsNamed all (Literal spelled) → attr_named spelled ≡ found
      → option_map (λ attr. let s : Start = (attr, []) in s) found ≡ Some start
      → StartRead (Literal spelled) start rest
  literal_read spelled None start rest among found is = absurd (cc is)
  literal_read spelled (Some attr) start rest among found is =
      let own : name_of_attr attr ≡ spelled = name spelled attr found in
      let P : List ℕ → Type 0 =
      λ spelled. attr_named spelled ≡ Some attr → IsNamed all (Literal spelled)
      → StartRead (Literal spelled) (attr, []) rest in
      let one : P (name_of_attr attr) =
      λ found among.
      record { read = literal_start attr rest found among; none = no_part_literal _ } in
      let same : ◌≡◌ {A = Start} (attr, []) start = cc is in
      subst (λ (s : Start). StartRead (Literal spelled) s rest) same (subst P own one found among)

  start_read : (token : Token) (start : Start) (rest : List ℕ) → IsNamed all token
      → start_of 0 token ≡ Some start → StartRead token start rest
  start_read (Code code) start rest named found = record {
    read =
        coded_start table (code ∷ rest) code rest start refl
        (apart code LITERAL start found literal_none) found;
    none =
        no_part code rest (apart code STR_I start found string_none)
        (apart code ENTITY start found entity_none)
        (apart code EXT_I_0 start found first_none) (apart code EXT_I_1 start found second_none)
        (apart code EXT_I_2 start found third_none);
  }
  start_read (Literal spelled) start rest named found =
      literal_read spelled (attr_named spelled) start rest named refl found

  -- ---- attributes

  abbrev pub attr_bytes : AttrName × List Part → List ℕ
  attr_bytes one =
      let attr = attr_of one in
      start_spelling all attr.start ++ flat_map piece_bytes attr.value

  pub record IsGoodAttr (one : AttrName × List Part) : Type 0 where
    pub normal : IsAttribute one
    pub of : OfAttr one
    pub named : IsNamed all (attr_of one).start

  -- on the first page, with pieces that decks have
  record IsPlainAttr (attr : Attr) : Type 0 where
    page : attr.page ≡ 0
    value : AllByRecursion IsPlain attr.value

  without_plain : (whole : Option ℕ) (attr : AttrName) (value : List Piece)
      → AllByRecursion IsPlain value → IsPlainAttr (attr_without whole attr value)
  without_plain (Some code) attr value are = record { page = refl; value = tt }
  without_plain None attr value are = record { page = refl; value = are }

  with_plain : (own : Option ℕ) (attr : AttrName) (parts : List Part)
      → AllByRecursion IsPlain (flat_map part_pieces parts) → IsPlainAttr (attr_with own attr parts)
  with_plain (Some code) attr parts are = record { page = refl; value = are }
  with_plain None attr parts are =
      without_plain (whole_code attr parts) attr (flat_map part_pieces parts) are

  plain_attr : (one : AttrName × List Part) → IsGoodAttr one → IsPlainAttr (attr_of one)
  plain_attr one is = with_plain _ one.0 one.1 (parts_plain one.1 is.normal.each is.of)

  pub attr_flat : (one : AttrName × List Part) → IsGoodAttr one
      → Flat (attr_spelling all (attr_of one)) (attr_bytes one)
  attr_flat one is =
      let attr = attr_of one in
      let plain_one = plain_attr one is in
      let start = start_spelling all attr.start in
      flat_on (on_attribute_page attr.page) (plain start ⨾ each piece_spelling attr.value) []
      (start ++ flat_map piece_bytes attr.value)
      (ap (λ (p : ℕ). on_attribute_page p first_pages) plain_one.page)
      (flat_on (plain start) (each piece_spelling attr.value) start
      (flat_map piece_bytes attr.value) refl
      (flat_each piece_spelling piece_bytes IsPlain piece_flat attr.value plain_one.value))

  -- what an attribute that means one begins with
  begun : (found : Option Start) (value : List Piece) (one : AttrName × List Part)
      → attribute_from found value ≡ Some one
      → (start : Start) × (found ≡ Some start) × (one ≡ (start.0, value_after start.1 value))
  begun None value one is = absurd (cc is)
  begun (Some start) value one is = (start, refl, cc is)

  abbrev start_in : (one : AttrName × List Part) → IsGoodAttr one
      → (start : Start) × (start_of 0 (attr_of one).start ≡ Some start)
      × (one ≡ (start.0, value_after start.1 (attr_of one).value))
  start_in one is =
      let attr = attr_of one in
      let page = (plain_attr one is).page in
      begun (start_of 0 attr.start) attr.value one (ap (λ (p : ℕ).
      attribute_from (start_of p attr.start) attr.value) (sym page) ∙ attribute_read one is.normal)

  pub attr_read : (one : AttrName × List Part) (rest : List ℕ) → IsGoodAttr one
      → part_at rest ≡ None → attr_at table (attr_bytes one ++ rest) ≡ Some (one, rest)
  unfolding attr_at
  attr_read one rest is none =
      let attr = attr_of one in
      let begin = start_in one is in
      let start : Start = begin.0 in
      let value = (plain_attr one is).value in
      let behind : List ℕ = flat_map piece_bytes attr.value ++ rest in
      let read = (start_read attr.start start behind is.named begin.1).read in
      ap (λ (l : List ℕ). start_at table l >>= λ x. let w : (AttrName × List Part) × List ℕ =
      ((x.0.0, value_at x.0.1 x.1), behind_value x.1) in Some w)
      (append_assoc (start_spelling all attr.start) (flat_map piece_bytes attr.value) rest)
      ∙ ap (λ (o : Option (Start × List ℕ)). o >>= λ x. let w : (AttrName × List Part) × List ℕ =
      ((x.0.0, value_at x.0.1 x.1), behind_value x.1) in Some w) read
      ∙ ap (λ (v : List Part).
      let w : (AttrName × List Part) × List ℕ = ((start.0, v), behind_value behind) in Some w)
      (value_read start.1 attr.value rest value none)
      ∙ ap (λ (l : List ℕ).
      let w : (AttrName × List Part) × List ℕ = ((start.0, value_after start.1 attr.value), l) in
      Some w) (behind_read attr.value rest value none)
      ∙ ap (λ (a : AttrName × List Part).
      let w : (AttrName × List Part) × List ℕ = (a, rest) in Some w) (sym begin.2)

  attr_begins : (one : AttrName × List Part) (rest : List ℕ) → IsGoodAttr one
      → part_at (attr_bytes one ++ rest) ≡ None
  attr_begins one rest is =
      let attr = attr_of one in
      let begin = start_in one is in
      ap part_at
      (append_assoc (start_spelling all attr.start) (flat_map piece_bytes attr.value) rest)
      ∙ (start_read attr.start begin.0
      (flat_map piece_bytes attr.value ++ rest) is.named begin.1).none

  attr_stops : (rest : List ℕ) → attr_at table (END ∷ rest) ≡ None
  unfolding attr_at start_at
  attr_stops rest =
      ap (λ (o : Option Start).
      (o >>= λ start. let w : Start × List ℕ = (start, rest) in Some w) >>= λ x. let w : (AttrName
      × List Part) × List ℕ = ((x.0.0, value_at x.0.1 x.1), behind_value x.1) in Some w) end_none

  attrs_follow : (attrs : List (AttrName × List Part)) (rest : List ℕ)
      → AllByRecursion IsGoodAttr attrs → part_at (flat_map attr_bytes attrs ++ (END ∷ rest)) ≡ None
  attrs_follow [] rest are = no_part_end rest
  attrs_follow (one ∷ attrs) rest are =
      ap part_at (append_assoc (attr_bytes one) (flat_map attr_bytes attrs) (END ∷ rest))
      ∙ attr_begins one (flat_map attr_bytes attrs ++ (END ∷ rest)) are.0

  pub attrs_read : (attrs : List (AttrName × List Part)) (rest : List ℕ)
      → AllByRecursion IsGoodAttr attrs
      → all_of (attr_at table) (flat_map attr_bytes attrs ++ (END ∷ rest)) ≡ (attrs, END ∷ rest)
  attrs_read [] rest are = all_end (attr_at table) (END ∷ rest) (attr_stops rest)
  attrs_read (one ∷ attrs) rest are =
      let more : List ℕ = flat_map attr_bytes attrs ++ (END ∷ rest) in
      ap (all_of (attr_at table))
      (append_assoc (attr_bytes one) (flat_map attr_bytes attrs) (END ∷ rest))
      ∙ all_on (attr_at table) (attr_takes table) (attr_bytes one ++ more) one more
      (attr_read one more are.0 (attrs_follow attrs rest are.1))
      ∙ ap (λ (x : List (AttrName × List Part) × List ℕ).
      let w : List (AttrName × List Part) × List ℕ = (one ∷ x.0, x.1) in w)
      (attrs_read attrs rest are.1)
