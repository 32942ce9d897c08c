-- Lines of which no byte may belong to a control character are shown as they are.
use Rattle.std.proofs.Common.{◌≡◌, ℕ, ◌+◌, ◌/◌, ◌%◌, ◌<◌, ◌≤◌, List, [], ◌∷◌, ◌++◌, length, map}
use Rattle.std.proofs.Common.{Bool, true, false, cond, ◌==◌, if◌then◌else◌, refl, sym, ap, ap₂}
use Rattle.std.proofs.Common.{◌∙◌, arith, inl, inr, encode_utf8, encode_utf8_all}
use Rattle.std.specs.List.{count_by}
use Rattle.std.proofs.lemmas.Bool.Decides.{nat_tests}
use Rattle.std.proofs.lemmas.Bool.{cases_lt, eqb-true}
use Rattle.std.proofs.lemmas.List.Sums.{sum_by-append}
use Rattle.std.proofs.lemmas.Str.{encode_ascii}
use Rattle.wap_base.specs.Ascii.{full_stop, line_feed}
use Rattle.wap_base.specs.Controls.{is_control, shown_text}
use Rattle.wap_base.proofs.Utf8Order.{two_bytes}
use Rattle.wap_layout.specs.buffer.Written.{lines_bytes}
use Rattle.wap_session.specs.inside.Dots.{may_be_control}

-- how many there are of two texts, one after the other
both : (xs ys : List ℕ)
    → count_by may_be_control (xs ++ ys) ≡ count_by may_be_control xs + count_by may_be_control ys
both = sum_by-append (λ (b : ℕ). cond (may_be_control b) 1 0)

-- ---- characters

ascii_none : (c : ℕ) → c < 128 → count_by may_be_control (c ∷ []) ≡ 0 → is_control c ≡ false
ascii_none c low none = grind (arith, nat_tests)

latin_some : (c : ℕ) → 128 ≤ c → c < 160
    → count_by may_be_control ((192 + c / 64) ∷ (128 + c % 64) ∷ []) ≡ 0 → ⊥
latin_some c high low none = grind (arith, nat_tests)

past : (c : ℕ) → 160 ≤ c → is_control c ≡ false
past c high = grind (arith, nat_tests)

no_control : (c : ℕ) → count_by may_be_control (encode_utf8 c) ≡ 0 → is_control c ≡ false
no_control c none = elim (cases_lt c 128) [
  | inl ascii ↦
      ascii_none c ascii (ap (count_by may_be_control) (sym (encode_ascii c ascii)) ∙ none)
  | inr high ↦ elim (cases_lt c 160) [
    | inl latin ↦
        absurd
        (latin_some c high latin
        (ap (count_by may_be_control) (sym (two_bytes c high (omega arith))) ∙ none))
    | inr other ↦ past c other
  ]
]

-- ---- lines

kept : (line : List ℕ) → count_by may_be_control (encode_utf8_all line) ≡ 0
    → shown_text line ≡ line
kept [] none = refl
kept (c ∷ cs) none =
    let sums = both (encode_utf8 c) (encode_utf8_all cs) in
    ap₂ (λ (x : ℕ) (xs : List ℕ). x ∷ xs)
    (ap (λ (b : Bool). if b then full_stop else c) (no_control c (omega (arith, none, sums))))
    (kept cs (omega (arith, none, sums)))

-- the line feeds are counted too, so there are no fewer than the lines
at_least : (lines : List (List ℕ)) → length lines ≤ count_by may_be_control (lines_bytes lines)
at_least [] = omega arith
at_least (line ∷ lines) =
    let bytes = encode_utf8_all line ++ line_feed ∷ [] in
    omega (
      arith,
      both (encode_utf8_all line) (line_feed ∷ []),
      both bytes (lines_bytes lines),
      at_least lines,
    )

all_kept : (lines : List (List ℕ)) → count_by may_be_control (lines_bytes lines) ≡ length lines
    → map shown_text lines ≡ lines
all_kept [] all = refl
all_kept (line ∷ lines) all =
    let bytes = encode_utf8_all line ++ line_feed ∷ [] in
    let first : count_by may_be_control bytes
    ≡ count_by may_be_control (encode_utf8_all line) + 1 =
    both (encode_utf8_all line) (line_feed ∷ []) in
    let whole = both bytes (lines_bytes lines) in
    let least = at_least lines in
    ap₂ (λ (l : List ℕ) (ls : List (List ℕ)). l ∷ ls)
    (kept line (omega (arith, all, first, whole, least)))
    (all_kept lines (omega (arith, all, first, whole, least)))

-- where the lines as they are written have as many as there are lines, these are shown as they are
pub plain : (lines : List (List ℕ)) (count many : ℕ)
    → count ≡ count_by may_be_control (lines_bytes lines) → many ≡ length lines
    → (count == many) ≡ true → map shown_text lines ≡ lines
plain lines count many counted is same =
    all_kept lines (sym counted ∙ eqb-true count many same ∙ is)
