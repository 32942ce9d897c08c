-- The tables of attributes and of their starts, computed.
use Rattle.std.proofs.Common.{◌≡◌, ◌≢◌, ℕ, ◌<◌, Bool, true, false, ◌==◌, ◌&&◌, nat_eq, map}
use Rattle.std.proofs.Common.{List, Option, Some, None, refl, sym, ap, ◌∙◌, inl, inr}
use Rattle.std.specs.Prelude.{slice_get, encode_utf8_all, IfSome}
use Rattle.std.specs.Borrow.{Bor}
use Rattle.std.specs.List.{list_all}
use Rattle.std.specs.Option.{option_and_then, option_map}
use Rattle.std.specs.Map.{lookup}
use Rattle.std.specs.Str.{chars, bytes_eq}
use Rattle.std.specs.Cmp.Lexicographic.{bytes_decides}
use Rattle.std.proofs.lemmas.Bool.{agree_below, agree_below_at, eqb-true}
use Rattle.std.proofs.lemmas.Bool.{cases_Bool, cond-false, and_parts}
use Rattle.wap_base.specs.Texts.{is_same_text}
use Rattle.wap_tokens.specs.declared.markup.name.AttrName.{AttrName}
use Rattle.wap_tokens.specs.declared.markup.name.AttrName.TheVariants as attrs
use Rattle.wap_tokens.specs.contracts.markup.name.AttrName as type
use Rattle.wap_tokens.specs.markup.Tables.{StartRow, Start, is_same_attr, is_same_start, name_rows}
use Rattle.wap_tokens.specs.markup.Tables.{attr_by_name, attr_named, name_of_attr, start_rows}
use Rattle.wap_tokens.specs.markup.Tables.{start_by_code, code_by_start, attr_start, code_of_start}
use Rattle.wap_tokens.specs.markup.Tables.{first_code, start_code}
use Rattle.wap_tokens.specs.inside.Places.{start_place}
use Rattle.wap_tokens.specs.Rows.{lent_start}
use Rattle.wap_tokens.proofs.Found.{found_passes, lookup_alike, is_same_option, same_option}
use Rattle.wap_base.proofs.Plain.{is_plain, chars-plain, same-plain}
use denote.Enum.Bare.{same_true}

-- ---- names, computed

abbrev name_fits : List ℕ × AttrName → Bool
name_fits row = is_same_text (name_of_attr row.1) row.0

names_fit : list_all name_fits (map attr_by_name name_rows) ≡ true
unfolding name_of_attr name_rows
names_fit = refl

names_plain : list_all (λ row. is_plain row.0) (map attr_by_name name_rows) ≡ true
unfolding name_rows
names_plain = refl

pub named : (attr : AttrName) → attr_named (name_of_attr attr) ≡ Some attr
unfolding attr_named name_rows name_of_attr
named attrs.Align = refl
named attr = refl

name_is_plain : (attr : AttrName) → is_plain (name_of_attr attr) ≡ true
unfolding name_rows name_of_attr
name_is_plain attrs.Align = refl
name_is_plain attr = refl

-- ---- what follows

pub name : (name : List ℕ) (attr : AttrName) → attr_named name ≡ Some attr
    → name_of_attr attr ≡ name
unfolding attr_named
name spelled attr found =
    let row =
    found_passes (is_same_text spelled) name_fits
    (map attr_by_name name_rows) attr names_fit found in
    (bytes_decides (name_of_attr attr) row.0).0 row.2 ∙ sym ((bytes_decides spelled row.0).0 row.1)

pub attr_named-bytes : (bytes text : List ℕ) → bytes ≡ encode_utf8_all text → text ≡ chars bytes
    → lookup (bytes_eq bytes) (map attr_by_name name_rows) ≡ attr_named text
unfolding attr_named
attr_named-bytes bytes text encoded read =
    lookup_alike is_plain (bytes_eq bytes) (is_same_text text) (map attr_by_name name_rows)
    (λ known plain. same-plain bytes text known encoded read plain) names_plain

pub chars-name_of_attr : (attr : AttrName) → chars (name_of_attr attr) ≡ name_of_attr attr
chars-name_of_attr attr = chars-plain (name_of_attr attr) (name_is_plain attr)

-- ---- starts, computed

abbrev code_fits : ℕ × Start → Bool
code_fits row = is_same_option nat_eq (code_of_start row.1) (Some row.0)

codes_fit : list_all code_fits (map start_by_code start_rows) ≡ true
unfolding code_of_start start_rows
codes_fit = refl

abbrev start_fits : Start × ℕ → Bool
start_fits row = is_same_option is_same_start (attr_start 0 row.1) (Some row.0)

starts_fit : list_all start_fits (map code_by_start start_rows) ≡ true
unfolding attr_start start_rows
starts_fit = refl

starts_plain : list_all (λ row. is_plain row.1.1) (map start_by_code start_rows) ≡ true
unfolding start_rows
starts_plain = refl

texts_plain : list_all (λ row. is_plain row.0.1) (map code_by_start start_rows) ≡ true
unfolding start_rows
texts_plain = refl

-- an answer is a start of this attribute
abbrev starts : AttrName → Option Start → Bool
starts attr None = false
starts attr (Some start) = is_same_attr start.0 attr

each_starts : (attr : AttrName) → starts attr (attr_start 0 (start_code attr)) ≡ true
unfolding attr_start start_rows code_of_start first_code
each_starts attrs.Align = refl
each_starts attr = refl

-- the start of the row at a place
abbrev pub start_in : StartRow → Start
start_in row = (row.1, row.2)

unfoldable pub placed_start : ℕ → Option Start
placed_start code = option_and_then (slice_get (map start_in start_rows)) (start_place code)

places_fit : agree_below (λ code.
    is_same_option is_same_start (attr_start 0 code) (placed_start code)) (λ code. true) 256 ≡ true
unfolding attr_start start_rows placed_start
places_fit = refl

-- ---- what follows

same_attr : (a b : AttrName) → is_same_attr a b ≡ true → a ≡ b
same_attr = same_true type.the_type tt

same_start : (a b : Start) → is_same_start a b ≡ true → a ≡ b
same_start a b so =
    let parts = and_parts (is_same_attr a.0 b.0) (is_same_text a.1 b.1) so in
    ap (λ attr. (attr, a.1)) (same_attr a.0 b.0 parts.0)
    ∙ ap (λ text. (b.0, text)) ((bytes_decides a.1 b.1).0 parts.1)

attr_start-placed : (code : ℕ) → code < 256 → attr_start 0 code ≡ placed_start code
attr_start-placed code byte =
    same_option is_same_start same_start (attr_start 0 code) (placed_start code)
    (agree_below_at (λ code. is_same_option is_same_start (attr_start 0 code) (placed_start code))
    (λ code. true) 256 code places_fit byte)

pub attr_start-at : (page code place : ℕ) → page ≡ 0 → code < 256 → start_place code ≡ Some place
    → attr_start page code ≡ slice_get (map start_in start_rows) place
unfolding placed_start
attr_start-at page code place zero byte there =
    ap (λ page. attr_start page code) zero ∙ attr_start-placed code byte
    ∙ ap (option_and_then (slice_get (map start_in start_rows))) there

pub attr_start-free : (page code : ℕ) → page ≡ 0 → code < 256 → start_place code ≡ None
    → attr_start page code ≡ None
unfolding placed_start
attr_start-free page code zero byte free =
    ap (λ page. attr_start page code) zero ∙ attr_start-placed code byte
    ∙ ap (option_and_then (slice_get (map start_in start_rows))) free

pub attr_start-other_page : (page code : ℕ) → page ≢ 0 → attr_start page code ≡ None
unfolding attr_start
attr_start-other_page page code other = elim (cases_Bool (page == 0)) [
  | inl is ↦ absurd (other (eqb-true page 0 is))
  | inr isnt ↦ cond-false (page == 0) _ _ isnt
]

on_page_0 : (page code : ℕ) (start : Start) → attr_start page code ≡ Some start → page ≡ 0
on_page_0 page code start found = elim (cases_Bool (page == 0)) [
  | inl is ↦ eqb-true page 0 is
  | inr isnt ↦ absurd (cc (
    found,
    attr_start-other_page page code (λ zero. absurd (cc (isnt, ap (λ (n : ℕ). n == 0) zero))),
  ))
]

found_in_table : (page code : ℕ) (start : Start) → attr_start page code ≡ Some start
    → lookup (nat_eq code) (map start_by_code start_rows) ≡ Some start
unfolding attr_start
found_in_table page code start found =
    ap (λ page. attr_start page code) (sym (on_page_0 page code start found)) ∙ found

pub start : (page code : ℕ) (start : Start) → attr_start page code ≡ Some start
    → (page ≡ 0) × (code_of_start start ≡ Some code)
start page code begun found =
    let row =
    found_passes (nat_eq code) code_fits (map start_by_code start_rows) begun codes_fit
    (found_in_table page code begun found) in
    let own : code_of_start begun ≡ Some row.0 =
    same_option nat_eq eqb-true (code_of_start begun) (Some row.0) row.2 in
    (on_page_0 page code begun found, own ∙ ap Some (sym (eqb-true code row.0 row.1)))

pub code : (start : Start) (code : ℕ) → code_of_start start ≡ Some code
    → attr_start 0 code ≡ Some start
unfolding code_of_start
code begun number found =
    let row =
    found_passes (is_same_start begun) start_fits
    (map code_by_start start_rows) number starts_fit found in
    same_option is_same_start same_start (attr_start 0 number) (Some row.0) row.2
    ∙ ap Some (sym (same_start begun row.0 row.1))

started_from : (attr : AttrName) (found : Option Start) → starts attr found ≡ true
    → (text : List ℕ) × (found ≡ Some (attr, text))
started_from attr None so = absurd (cc so)
started_from attr (Some begun) so =
    let same : begun.0 ≡ attr = same_attr begun.0 attr so in
    (begun.1, ap (λ attr. Some (attr, begun.1)) same)

pub started : (attr : AttrName)
    → (text : List ℕ) × (attr_start 0 (start_code attr) ≡ Some (attr, text))
started attr = started_from attr (attr_start 0 (start_code attr)) (each_starts attr)

-- a start that is found is a plain text
pub start_is_plain : (page code : ℕ) (start : Start) → attr_start page code ≡ Some start
    → is_plain start.1 ≡ true
start_is_plain page code begun found =
    (found_passes (nat_eq code) (λ row. is_plain row.1.1)
    (map start_by_code start_rows) begun starts_plain (found_in_table page code begun found)).2

pub chars-start : (page code : ℕ) (result : Option (AttrName × Bor (List ℕ)))
    → option_map lent_start result ≡ attr_start page code
    → IfSome result (λ start. chars start.1.now ≡ start.1.now)
chars-start page code None is = tt
chars-start page code (Some begun) is =
    chars-plain begun.1.now (start_is_plain page code (lent_start begun) (sym is))

-- starts are looked up by bytes
pub code_of_start-bytes : (attr : AttrName) (bytes text : List ℕ) → bytes ≡ encode_utf8_all text
    → text ≡ chars bytes
    → lookup (λ start. is_same_attr attr start.0 && bytes_eq bytes start.1)
    (map code_by_start start_rows)
    ≡ code_of_start (attr, text)
unfolding code_of_start
code_of_start-bytes attr bytes text encoded read =
    lookup_alike (λ begun. is_plain begun.1)
    (λ begun. is_same_attr attr begun.0 && bytes_eq bytes begun.1) (is_same_start (attr, text))
    (map code_by_start start_rows)
    (λ begun plain. ap (λ b. is_same_attr attr begun.0 && b)
    (same-plain bytes text begun.1 encoded read plain)) texts_plain
