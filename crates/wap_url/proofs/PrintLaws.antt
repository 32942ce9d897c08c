-- Slashes at the end, ports and pages of names.
use Rattle.std.proofs.Common.{◌≡◌, ℕ, suc, ◌-◌, ◌<◌, ◌≤◌, true, false, ◌==◌, List, [], ◌∷◌, ◌++◌}
use Rattle.std.proofs.Common.{length, get_or, refl, ap, sym, ◌∙◌, arith, inl, inr, encode_utf8}
use Rattle.std.proofs.Common.{encode_utf8_all, length-append, codes, append-nil}
use Rattle.std.specs.Str.{chars}
use Rattle.std.proofs.lemmas.Bool.{cond-true, cond-false, cases_lt, ne_eqb}
use Rattle.std.proofs.lemmas.Str.{encode_ascii}
use Rattle.wap_url.specs.Printing.{ends_in_slash, named_page}
use Rattle.wap_base.proofs.Utf8Cuts.{AllHigh, high_bytes, encode_some}

pub ends-last : (xs : List ℕ) → 0 < length xs
    → (get_or xs (length xs - 1) 0 == 47) ≡ ends_in_slash xs
ends-last [] some = absurd (omega arith)
ends-last (x ∷ []) some = refl
ends-last (x ∷ y ∷ xs) some =
    let e : length (x ∷ y ∷ xs) - 1 ≡ suc (length (y ∷ xs) - 1) = omega arith in
    ap (λ n. get_or (x ∷ y ∷ xs) n 0 == 47) e ∙ ends-last (y ∷ xs) (omega arith)

ends-cons : (x : ℕ) (ys : List ℕ) → 0 < length ys → ends_in_slash (x ∷ ys) ≡ ends_in_slash ys
ends-cons x [] some = absurd (omega arith)
ends-cons x (y ∷ ys) some = refl

ends-append : (xs ys : List ℕ) → 0 < length ys → ends_in_slash (xs ++ ys) ≡ ends_in_slash ys
ends-append [] ys some = refl
ends-append (x ∷ xs) ys some =
    ends-cons x (xs ++ ys) (omega (arith, length-append xs ys)) ∙ ends-append xs ys some

ends_high : (bs : List ℕ) → AllHigh bs → ends_in_slash bs ≡ false
ends_high [] high = refl
ends_high (b ∷ []) high = ne_eqb b 47 (λ e. differ e high.0) where
  differ : b ≡ 47 → 128 ≤ b → ⊥
  differ e above = omega arith
ends_high (b ∷ d ∷ bs) high = ends_high (d ∷ bs) high.1

pub ends-encodes : (cs : List ℕ) → ends_in_slash (encode_utf8_all cs) ≡ ends_in_slash cs
ends-encodes [] = refl
ends-encodes (c ∷ []) = elim (cases_lt c 128) [
  | inl ascii ↦ ap (λ bs. ends_in_slash (bs ++ [])) (encode_ascii c ascii)
  | inr high ↦
      ap ends_in_slash (append-nil (encode_utf8 c)) ∙ ends_high (encode_utf8 c) (high_bytes c high)
      ∙ sym (ne_eqb c 47 (λ e. differ e high))
] where
  differ : c ≡ 47 → 128 ≤ c → ⊥
  differ e above = omega arith
ends-encodes (c ∷ d ∷ cs) =
    ends-append (encode_utf8 c) (encode_utf8_all (d ∷ cs))
    (omega (arith, encode_some d, length-append (encode_utf8 d) (encode_utf8_all cs)))
    ∙ ends-encodes (d ∷ cs)

pub page_named : (path : List ℕ) → ends_in_slash path ≡ true
    → named_page path ≡ path ++ codes "index.wmlc"
page_named path holds = cond-true (ends_in_slash path) (path ++ codes "index.wmlc") path holds

pub page_plain : (path : List ℕ) → ends_in_slash path ≡ false → named_page path ≡ path
page_plain path fails = cond-false (ends_in_slash path) (path ++ codes "index.wmlc") path fails

pub chars-index : chars (codes "index.wmlc") ≡ codes "index.wmlc"
unfolding chars
chars-index = refl
