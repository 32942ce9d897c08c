-- How far bytes of one class reach.
use Rattle.std.proofs.Common.{◌≡◌, ℕ, suc, ◌+◌, ◌<◌, Bool, true, false, List, [], ◌∷◌}
use Rattle.std.proofs.Common.{◌++◌, length, take, refl, ap, ◌∙◌, arith}
use Rattle.std.specs.Prelude.{◌&&◌}
use Rattle.std.specs.List.{list_all, prefix_len}
use Rattle.std.proofs.lemmas.List.Folds.{length-prefix_len}
use Rattle.std.proofs.lemmas.Bool.{and_parts, cond-true, cond-false}

-- one step further, once the test is known
pub run_more : (p : ℕ → Bool) (c : ℕ) (bytes : List ℕ) → p c ≡ true
    → prefix_len p (c ∷ bytes) ≡ suc (prefix_len p bytes)
run_more p c bytes is = cond-true (p c) (1 + prefix_len p bytes) 0 is ∙ omega arith

pub run_none : (p : ℕ → Bool) (c : ℕ) (bytes : List ℕ) → p c ≡ false → prefix_len p (c ∷ bytes) ≡ 0
run_none p c bytes other = cond-false (p c) (1 + prefix_len p bytes) 0 other

all_more : (p : ℕ → Bool) (c : ℕ) (bytes : List ℕ) (b : Bool) → p c ≡ b
    → list_all p (take (prefix_len p bytes) bytes) ≡ true
    → list_all p (take (prefix_len p (c ∷ bytes)) (c ∷ bytes)) ≡ true
all_more p c bytes true e rest =
    ap (λ (n : ℕ). list_all p (take n (c ∷ bytes))) (run_more p c bytes e)
    ∙ ap (λ (b : Bool). b && list_all p (take (prefix_len p bytes) bytes)) e ∙ rest
all_more p c bytes false e rest =
    ap (λ (n : ℕ). list_all p (take n (c ∷ bytes))) (run_none p c bytes e)

-- all bytes of a run are of the class
pub run_all : (p : ℕ → Bool) (bytes : List ℕ) → list_all p (take (prefix_len p bytes) bytes) ≡ true
run_all p [] = refl
run_all p (c ∷ bytes) = all_more p c bytes (p c) refl (run_all p bytes)

-- a run goes over bytes of the class
pub run_over : (p : ℕ → Bool) (text more : List ℕ) → list_all p text ≡ true
    → prefix_len p (text ++ more) ≡ length text + prefix_len p more
run_over p [] more all = omega arith
run_over p (c ∷ text) more all =
    let parts = and_parts (p c) (list_all p text) all in
    run_more p c (text ++ more) parts.0
    ∙ ap (λ (n : ℕ). suc n) (run_over p text more parts.1) ∙ omega arith

pub run_length : (p : ℕ → Bool) (bytes : List ℕ)
    → length (take (prefix_len p bytes) bytes) ≡ prefix_len p bytes
run_length p bytes = length-prefix_len p bytes

-- a run that is some begins with a byte of the class
pub run_first : (p : ℕ → Bool) (c : ℕ) (bytes : List ℕ) → 0 < prefix_len p (c ∷ bytes) → p c ≡ true
run_first p c bytes some = first (p c) refl some where
  first : (b : Bool) → p c ≡ b → 0 < prefix_len p (c ∷ bytes) → p c ≡ true
  first true e more = e
  first false e more = absurd (omega (arith, run_none p c bytes e))

-- a run ends before a byte of another class
pub run_until : (p : ℕ → Bool) (text : List ℕ) (c : ℕ) (more : List ℕ) → list_all p text ≡ true
    → p c ≡ false → prefix_len p (text ++ c ∷ more) ≡ length text
run_until p text c more all other =
    run_over p text (c ∷ more) all
    ∙ ap (λ (n : ℕ). length text + n) (run_none p c more other) ∙ omega arith
