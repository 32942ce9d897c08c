-- Words and white space reach as far as their bytes do.
use Rattle.std.proofs.Common.{◌≡◌, ℕ, suc, ◌+◌, ◌<◌, ◌≤◌, Bool, true, false, cond, List, []}
use Rattle.std.proofs.Common.{◌∷◌, ◌++◌, length, take, refl, ap, ◌∙◌, arith}
use Rattle.std.specs.List.{list_all, prefix_len}
use Rattle.std.proofs.lemmas.Bool.{and_parts, and_from, cond-true, cond-false}
use Rattle.std.proofs.lemmas.List.Sums.{prefix_len-le-length}
use Rattle.wap_base.specs.Names.{begins_name, continues_name, is_name}
use Rattle.wap_lex.specs.Characters.{is_white}
use Rattle.wap_lex.specs.Calculation.{word_len}
use Rattle.wap_lex.proofs.Runs.{run_all, run_over, run_length}

-- what is found has the shape, and nothing of the shape reaches farther
pub record Reaches (len : List ℕ → ℕ) (Fits : List ℕ → Type 0) : Type 0 where
  pub takes : (bytes : List ℕ) → 0 < len bytes → Fits (take (len bytes) bytes)
  pub most : (text more : List ℕ) → Fits text → length text ≤ len (text ++ more)
  pub some : (text : List ℕ) → Fits text → 0 < length text
  pub within : (bytes : List ℕ) → len bytes ≤ length bytes

pub blanks :
    Reaches (prefix_len is_white) (λ text. (0 < length text) × (list_all is_white text ≡ true))
blanks = record {
  takes = λ bytes some. (omega (arith, run_length is_white bytes), run_all is_white bytes);
  most = λ text more fits. omega (arith, run_over is_white text more fits.1);
  some = λ text fits. fits.0;
  within = λ bytes. prefix_len-le-length is_white bytes;
}

word_first : (first : ℕ) (rest : List ℕ) (b : Bool) → begins_name first ≡ b
    → 0 < word_len (first ∷ rest) → is_name (take (word_len (first ∷ rest)) (first ∷ rest)) ≡ true
word_first first rest true e some =
    let n = prefix_len continues_name rest in
    let len : word_len (first ∷ rest) ≡ suc n =
    cond-true (begins_name first) (1 + n) 0 e ∙ omega arith in
    ap (λ (k : ℕ). is_name (take k (first ∷ rest))) len ∙ and_from (begins_name first)
    (list_all continues_name (take n rest)) e (run_all continues_name rest)
word_first first rest false e some =
    let n = prefix_len continues_name rest in
    let none = cond-false (begins_name first) (1 + n) 0 e in
    absurd (omega (arith, none))

word_takes : (bytes : List ℕ) → 0 < word_len bytes → is_name (take (word_len bytes) bytes) ≡ true
word_takes [] some = absurd (omega arith)
word_takes (first ∷ rest) some = word_first first rest (begins_name first) refl some

word_most : (text more : List ℕ) → is_name text ≡ true → length text ≤ word_len (text ++ more)
word_most [] more fits = omega arith
word_most (first ∷ text) more fits =
    let parts = and_parts (begins_name first) (list_all continues_name text) fits in
    let len =
    cond-true (begins_name first) (1 + prefix_len continues_name (text ++ more)) 0 parts.0 in
    omega (arith, len, run_over continues_name text more parts.1)

word_some : (text : List ℕ) → is_name text ≡ true → 0 < length text
word_some [] fits = absurd cc
word_some (first ∷ text) fits = omega arith

-- a length under a test is within what the length is within
pub test_within : (b : Bool) (m n limit : ℕ) → m ≤ limit → n ≤ limit → cond b m n ≤ limit
test_within true m n limit first second = first
test_within false m n limit first second = second

word_within : (bytes : List ℕ) → word_len bytes ≤ length bytes
word_within [] = omega arith
word_within (first ∷ rest) =
    test_within (begins_name first) (1 + prefix_len continues_name rest) 0 (suc (length rest))
    (omega (arith, prefix_len-le-length continues_name rest)) (omega arith)

pub words : Reaches word_len (λ text. is_name text ≡ true)
words = record { takes = word_takes; most = word_most; some = word_some; within = word_within }
