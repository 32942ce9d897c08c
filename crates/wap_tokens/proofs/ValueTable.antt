-- The table of parts of values, computed.
use Rattle.std.proofs.Common.{◌≡◌, ◌≢◌, ℕ, ◌<◌, Bool, true, ◌==◌, nat_eq, map, unwrap_or, List}
use Rattle.std.proofs.Common.{Option, Some, None, refl, sym, ap, ◌∙◌, inl, inr}
use Rattle.std.specs.Prelude.{slice_get, IfSome}
use Rattle.std.specs.Borrow.{Bor}
use Rattle.std.specs.List.{list_all}
use Rattle.std.specs.Option.{option_and_then, option_map}
use Rattle.std.specs.Map.{lookup}
use Rattle.std.specs.Str.{chars}
use Rattle.std.specs.Cmp.Lexicographic.{bytes_decides}
use Rattle.std.proofs.lemmas.Bool.{agree_below, agree_below_at, eqb-true, cases_Bool, cond-false}
use Rattle.wap_base.specs.Texts.{is_same_text}
use Rattle.wap_tokens.specs.markup.Tables.{ValueRow, value_rows, attr_value}
use Rattle.wap_tokens.specs.inside.Places.{value_place}
use Rattle.wap_tokens.proofs.Found.{found_passes, is_same_option, same_option}
use Rattle.wap_base.proofs.Plain.{is_plain, chars-plain}

-- ---- computed

-- the code of a text
unfoldable code_of_text : List ℕ → ℕ
code_of_text text =
    unwrap_or (lookup (is_same_text text) (map (λ row. (row.1, row.0)) value_rows)) 0

abbrev code_fits : ℕ × List ℕ → Bool
code_fits row = nat_eq (code_of_text row.1) row.0

codes_fit : list_all code_fits value_rows ≡ true
unfolding code_of_text value_rows
codes_fit = refl

texts_plain : list_all (λ row. is_plain row.1) value_rows ≡ true
unfolding value_rows
texts_plain = refl

-- the text of the row at a place
abbrev pub text_in : ValueRow → List ℕ
text_in row = row.1

unfoldable pub placed_text : ℕ → Option (List ℕ)
placed_text code = option_and_then (slice_get (map text_in value_rows)) (value_place code)

places_fit : agree_below (λ code.
    is_same_option is_same_text (attr_value 0 code) (placed_text code)) (λ code. true) 256 ≡ true
unfolding attr_value value_rows placed_text
places_fit = refl

-- ---- what follows

attr_value-placed : (code : ℕ) → code < 256 → attr_value 0 code ≡ placed_text code
attr_value-placed code byte =
    same_option is_same_text (λ a b so. (bytes_decides a b).0 so) (attr_value 0 code)
    (placed_text code)
    (agree_below_at (λ code. is_same_option is_same_text (attr_value 0 code) (placed_text code))
    (λ code. true) 256 code places_fit byte)

pub attr_value-at : (page code place : ℕ) → page ≡ 0 → code < 256 → value_place code ≡ Some place
    → attr_value page code ≡ slice_get (map text_in value_rows) place
unfolding placed_text
attr_value-at page code place zero byte there =
    ap (λ page. attr_value page code) zero ∙ attr_value-placed code byte
    ∙ ap (option_and_then (slice_get (map text_in value_rows))) there

pub attr_value-free : (page code : ℕ) → page ≡ 0 → code < 256 → value_place code ≡ None
    → attr_value page code ≡ None
unfolding placed_text
attr_value-free page code zero byte free =
    ap (λ page. attr_value page code) zero ∙ attr_value-placed code byte
    ∙ ap (option_and_then (slice_get (map text_in value_rows))) free

pub attr_value-other_page : (page code : ℕ) → page ≢ 0 → attr_value page code ≡ None
unfolding attr_value
attr_value-other_page page code other = elim (cases_Bool (page == 0)) [
  | inl is ↦ absurd (other (eqb-true page 0 is))
  | inr isnt ↦ cond-false (page == 0) _ _ isnt
]

on_page_0 : (page code : ℕ) (text : List ℕ) → attr_value page code ≡ Some text → page ≡ 0
on_page_0 page code text found = elim (cases_Bool (page == 0)) [
  | inl is ↦ eqb-true page 0 is
  | inr isnt ↦ absurd (cc (
    found,
    attr_value-other_page page code (λ zero. absurd (cc (isnt, ap (λ (n : ℕ). n == 0) zero))),
  ))
]

found_in_table : (page code : ℕ) (text : List ℕ) → attr_value page code ≡ Some text
    → lookup (nat_eq code) value_rows ≡ Some text
unfolding attr_value
found_in_table page code text found =
    ap (λ page. attr_value page code) (sym (on_page_0 page code text found)) ∙ found

own_code : (page code : ℕ) (text : List ℕ) → attr_value page code ≡ Some text
    → code_of_text text ≡ code
own_code page code text found =
    let row =
    found_passes (nat_eq code) code_fits value_rows text codes_fit
    (found_in_table page code text found) in
    eqb-true (code_of_text text) row.0 row.2 ∙ sym (eqb-true code row.0 row.1)

pub apart : (page code other_page other : ℕ) (text : List ℕ) → attr_value page code ≡ Some text
    → attr_value other_page other ≡ Some text → (page ≡ other_page) × (code ≡ other)
apart page code other_page other text one two = (
  on_page_0 page code text one ∙ sym (on_page_0 other_page other text two),
  sym (own_code page code text one) ∙ own_code other_page other text two,
)

text_is_plain : (page code : ℕ) (text : List ℕ) → attr_value page code ≡ Some text
    → is_plain text ≡ true
text_is_plain page code text found =
    (found_passes (nat_eq code) (λ row. is_plain row.1) value_rows text texts_plain
    (found_in_table page code text found)).2

pub chars-value : (page code : ℕ) (result : Option (Bor (List ℕ)))
    → option_map (λ text. text.now) result ≡ attr_value page code
    → IfSome result (λ text. chars text.now ≡ text.now)
chars-value page code None is = tt
chars-value page code (Some text) is =
    chars-plain text.now (text_is_plain page code text.now (sym is))
