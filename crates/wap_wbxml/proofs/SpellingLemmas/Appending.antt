-- What is written one after the other.
use Rattle.std.proofs.Common.{◌≡◌, ℕ, zero, suc, ◌+◌, ◌<◌, ◌≤◌, true, false, length, take, get_or}
use Rattle.std.proofs.Common.{List, [], ◌∷◌, ◌++◌, refl, sym, ap, ◌∙◌, append_assoc}
use Rattle.std.specs.Prelude.{◌==◌}
use Rattle.std.proofs.Math.Dec.{eqb-suc-zero}
use Rattle.std.proofs.lemmas.List.{append-nil, take_more, take_all}
use Rattle.wap_tokens.specs.declared.markup.codes.TheConstants.{END}
use Rattle.wap_wbxml.specs.declared.spelling.output.Output.{Output}
use Rattle.wap_wbxml.specs.declared.spelling.output.Pages.{Pages}
use Rattle.wap_wbxml.specs.spelling.Writings.{Writing, plain, ◌⨾◌, each, ended}
use Rattle.wap_wbxml.specs.spelling.Written.{written}

-- what is written after some bytes
with_bytes : Pages → List ℕ → Output
with_bytes pages bytes = record { bytes = bytes; pages = pages }

pub written_then : (first next : Writing) (output : Output)
    → written next (written first output) ≡ written (first ⨾ next) output
unfolding ◌⨾◌ with_bytes
written_then first next output =
    let a = first output.pages in
    let b = next a.1 in
    ap (with_bytes b.1) (append_assoc output.bytes a.0 b.0)

pub written_none : (output : Output) → written (plain []) output ≡ output
unfolding with_bytes
written_none output = ap (with_bytes output.pages) (append-nil output.bytes)

module _ {A : Type 0} (write : A → Writing) where
  pub each_none : (output : Output) → output ≡ written (each write []) output
  unfolding each
  each_none output = sym (written_none output)

  pub each_one_more : (xs : List A) (x : A) (output : Output)
      → written (write x) (written (each write xs) output)
      ≡ written (each write (xs ++ x ∷ [])) output
  unfolding each
  each_one_more [] x output =
      ap (written (write x)) (written_none output) ∙ sym (written_none (written (write x) output))
      ∙ written_then (write x) (plain []) output
  each_one_more (y ∷ xs) x output =
      ap (written (write x)) (sym (written_then (write y) (each write xs) output))
      ∙ each_one_more xs x (written (write y) output)
      ∙ written_then (write y) (each write (xs ++ x ∷ [])) output

-- what stands after two steps
pub in_turn : (first next : Writing) (before between after : Output)
    → between ≡ written first before
    → after ≡ written next between → after ≡ written (first ⨾ next) before
in_turn first next before between after one two =
    two ∙ ap (written next) one ∙ written_then first next before

no_items : {A : Type 0} (xs : List A) → true ≡ (length xs == 0) → xs ≡ []
no_items [] empty = refl
no_items (x ∷ xs) empty = let never = empty ∙ eqb-suc-zero (length xs) in absurd cc

take_none : {A : Type 0} (i : ℕ) → take {A = A} i [] ≡ []
take_none zero = refl
take_none (suc i) = refl

with_end : {A : Type 0} (write : A → Writing) (xs : List A) → false ≡ (length xs == 0)
    → (before : Output)
    → written (each write xs ⨾ plain (END ∷ [])) before ≡ written (ended write xs) before
with_end write [] some before = absurd cc
with_end write (x ∷ xs) some before = refl

module _ {A : Type 0} (write : A → Writing) (xs : List A) (before : Output) where
  -- one item more
  pub each_step : (i : ℕ) (x : A) (between after : Output) → i < length xs → x ≡ get_or xs i x
      → between ≡ written (each write (take i xs)) before → after ≡ written (write x) between
      → after ≡ written (each write (take (i + 1) xs)) before
  each_step i x between after within is so_far more =
      let items : take i xs ++ x ∷ [] ≡ take (i + 1) xs =
      ap (λ (y : A). take i xs ++ y ∷ []) is ∙ sym (take_more xs i x within) in
      more ∙ ap (written (write x)) so_far ∙ each_one_more write (take i xs) x before
      ∙ ap (λ (l : List A). written (each write l) before) items

  -- none, and so no end
  pub ended_none : (i : ℕ) (after : Output) → true ≡ (length xs == 0)
      → after ≡ written (each write (take i xs)) before → after ≡ written (ended write xs) before
  ended_none i after empty so_far =
      let none : xs ≡ [] = no_items xs empty in
      so_far ∙ ap (λ (l : List A). written (each write (take i l)) before) none
      ∙ ap (λ (l : List A). written (each write l) before) (take_none i)
      ∙ sym (each_none write before) ∙ sym (written_none before)
      ∙ ap (λ (l : List A). written (ended write l) before) (sym none)

  pub ended_some : (i : ℕ) (between after : Output) → length xs ≤ i → false ≡ (length xs == 0)
      → between ≡ written (each write (take i xs)) before
      → after ≡ written (plain (END ∷ [])) between
      → after ≡ written (ended write xs) before
  ended_some i between after all some so_far end =
      let whole : between ≡ written (each write xs) before =
      so_far ∙ ap (λ (l : List A). written (each write l) before) (take_all i xs all) in
      in_turn (each write xs) (plain (END ∷ [])) before between after whole end
      ∙ with_end write xs some before
