-- Bytes and their parts, in one form and another.
use Rattle.std.proofs.Common.{◌≡◌, ℕ, List, [], ◌∷◌, ◌++◌, refl, sym, ap, subst, ◌∙◌}
use Rattle.std.proofs.lemmas.List.{append-nil}
use Rattle.wap_base.specs.formats.Sequences.{InTurn, Then, IsByte, After}

-- the same parts, of which something else is known
pub parts_of : {First Second Former Latter : List ℕ → Type 0} {bytes : List ℕ}
    (is : InTurn First Second bytes) → Former is.front → Latter is.back
    → InTurn Former Latter bytes
parts_of is first second = record {
  front = is.front;
  back = is.back;
  split = is.split;
  first = first;
  second = second;
}

-- two parts, one after the other
pub both : {First Second : List ℕ → Type 0} (front back : List ℕ) → First front → Second back
    → InTurn First Second (front ++ back)
both front back first second =
    record { front = front; back = back; split = refl; first = first; second = second }

-- a value, and after it what follows it
pub then_is : {A : Type 0} {Is : List ℕ → A → Type 0} {Next : A → List ℕ → Type 0} (x : A)
    (front back : List ℕ) → Is front x → Next x back → Then Is Next (front ++ back)
then_is x front back first second = (x, both front back first second)

-- a byte and what follows it
pub headed : {byte : ℕ} {Is : List ℕ → Type 0} {bytes : List ℕ}
    → InTurn (λ front. IsByte front byte) Is bytes → After byte Is bytes
headed is = (is.back, is.split ∙ ap (λ (l : List ℕ). l ++ is.back) is.first, is.second)

-- and again
pub behind : {byte : ℕ} {Is : List ℕ → Type 0} {bytes : List ℕ} → After byte Is bytes
    → InTurn (λ front. IsByte front byte) Is bytes
behind {byte} is =
    record { front = byte ∷ []; back = is.0; split = is.1; first = refl; second = is.2 }

module _ {A : Type 0} {Is : List ℕ → A → Type 0} {Holds : A → Type 0} where
  -- a value after which nothing more stands
  pub alone : (bytes : List ℕ) → Then Is (λ x l. (l ≡ []) × Holds x) bytes
      → (x : A) × Is bytes x × Holds x
  alone bytes is =
      let parts = is.1 in (
        is.0,
        subst (λ (l : List ℕ). Is l is.0) (sym (parts.split
            ∙ ap (λ (l : List ℕ). parts.front ++ l) parts.second.0 ∙ append-nil parts.front))
            parts.first,
        parts.second.1,
      )

  -- and what is said of it
  pub added : (bytes : List ℕ) → (x : A) × Is bytes x × Holds x
      → Then Is (λ x l. (l ≡ []) × Holds x) bytes
  added bytes is = (
    is.0,
    record {
      front = bytes;
      back = [];
      split = sym (append-nil bytes);
      first = is.1;
      second = (refl, is.2);
    },
  )
