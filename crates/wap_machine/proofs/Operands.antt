-- Operands lie in a vector with the topmost last, and are seen with the topmost first.
use Rattle.std.proofs.Common.{◌≡◌, ℕ, ◌+◌, ◌-◌, List, ◌++◌, length, take, drop}
use Rattle.std.proofs.Common.{reverse, sym, ap, ◌∙◌, arith, length-drop}
use Rattle.std.proofs.lemmas.List.{reverse-append, reverse-reverse}
use Rattle.std.proofs.lemmas.List.{length-reverse, take-append-drop}
use Rattle.std.proofs.Math.Seq.{take-append_seam, drop-append_seam}

module _ {A : Type 0} (items : List A) (rest count : ℕ) (all : rest + count ≡ length items) where
  turned : reverse items ≡ reverse (drop rest items) ++ reverse (take rest items)
  turned =
      ap (λ (l : List A). reverse l) (sym (take-append-drop rest items))
      ∙ reverse-append (take rest items) (drop rest items)

  many : length (reverse (drop rest items)) ≡ count
  many =
      let dropped : length (drop rest items) ≡ length items - rest = length-drop rest items in
      length-reverse (drop rest items) ∙ (omega arith)

  -- the last so many are the arguments, in their order
  pub arguments_of : drop rest items ≡ reverse (take count (reverse items))
  arguments_of = sym (ap (λ (l : List A). reverse (take count l)) turned
      ∙ ap (λ (n : ℕ). reverse (take n (reverse (drop rest items) ++ reverse (take rest items))))
      (sym many)
      ∙ ap (λ (l : List A). reverse l)
      (take-append_seam (reverse (drop rest items)) (reverse (take rest items)))
      ∙ twice (drop rest items))
    where
      twice : (l : List A) → reverse (reverse l) ≡ l
      twice l = reverse-reverse l

  pub rest_of : reverse (take rest items) ≡ drop count (reverse items)
  rest_of = sym (ap (λ (l : List A). drop count l) turned
      ∙ ap (λ (n : ℕ). drop n (reverse (drop rest items) ++ reverse (take rest items))) (sym many)
      ∙ drop-append_seam (reverse (drop rest items)) (reverse (take rest items)))
