-- Texts of characters: those of the tables.
use Rattle.std.proofs.Common.{◌≡◌, ℕ, Bool, true, map, List, [], ◌∷◌, ◌++◌, Option, Some, None}
use Rattle.std.proofs.Common.{refl, sym, ap, inl, inr}
use Rattle.std.specs.Prelude.{◌&&◌, ◌==◌, nat_eq}
use Rattle.std.specs.List.{list_all}
use Rattle.std.specs.Map.{lookup}
use Rattle.std.specs.Option.{option_map}
use Rattle.std.specs.Str.{all_scalars}
use Rattle.std.proofs.lemmas.Bool.{and_from, and_parts}
use lib.Utf8.{scalar}
use Rattle.wap_base.proofs.Choices.{chosen, some_same}
use Rattle.wap_tokens.specs.declared.markup.document.Token.{Token}
use Rattle.wap_tokens.specs.declared.markup.document.Token.TheVariants.{Code, Literal}
use Rattle.wap_tokens.specs.declared.markup.name.AttrName.{AttrName}
use Rattle.wap_tokens.specs.markup.Strings.{is_not_zero}
use Rattle.wap_tokens.specs.markup.Tables.{Start, start_by_code, start_rows}
use Rattle.wap_tokens.specs.markup.Tables.{attr_start, attr_named, value_rows, attr_value}
use Rattle.wap_tokens.specs.markup.Decks.{start_of}
use Rattle.wap_tokens.proofs.Found.{found_passes}
use Rattle.wap_wbxml.specs.spelling.Spellable.{IsString}

abbrev pub OfCharacters : List ℕ → Type 0
OfCharacters text = all_scalars text ≡ true

pub text_append : (a b : List ℕ) → OfCharacters a → OfCharacters b → OfCharacters (a ++ b)
text_append [] b one two = two
text_append (c ∷ a) b one two =
    let parts = and_parts (scalar c) (all_scalars a) one in
    and_from (scalar c) (all_scalars (a ++ b)) parts.0 (text_append a b parts.1 two)

-- ---- the tables, computed

values_are : list_all (λ row. all_scalars row.1) value_rows ≡ true
unfolding value_rows
values_are = refl

abbrev is_string : List ℕ → Bool
is_string text = list_all is_not_zero text && all_scalars text

starts_are : list_all (λ row. is_string row.1.1) (map start_by_code start_rows) ≡ true
unfolding start_rows
starts_are = refl

pub value_text : (page code : ℕ) (text : List ℕ) → attr_value page code ≡ Some text
    → OfCharacters text
unfolding attr_value
value_text page code text found =
    elim (chosen (page == 0) (lookup (nat_eq code) value_rows) None (Some text) found) [
      | inl here ↦
          (found_passes (nat_eq code)
          (λ row. all_scalars row.1) value_rows text values_are here.1).2
      | inr none ↦ absurd (cc none.1)
    ]

pub coded_text : (page code : ℕ) (start : Start) → attr_start page code ≡ Some start
    → IsString start.1
unfolding attr_start
coded_text page code start found =
    let rows = map start_by_code start_rows in
    elim (chosen (page == 0) (lookup (nat_eq code) rows) None (Some start) found) [
      | inl here ↦
          let row =
          found_passes (nat_eq code) (λ row. is_string row.1.1) rows start starts_are here.1 in
          and_parts (list_all is_not_zero start.1) (all_scalars start.1) row.2
      | inr none ↦ absurd (cc none.1)
    ]

named_text : (found : Option AttrName) (start : Start)
    → option_map (λ attr. (attr, [])) found ≡ Some start
    → OfCharacters start.1
named_text None start is = absurd (cc is)
named_text (Some attr) start is =
    ap (λ (s : Start). all_scalars s.1) (sym (some_same (attr, []) start is))

-- the text with which a value begins
pub start_text : (page : ℕ) (token : Token) (start : Start) → start_of page token ≡ Some start
    → OfCharacters start.1
start_text page (Code code) start found = (coded_text page code start found).1
start_text page (Literal name) start found = named_text (attr_named name) start found
