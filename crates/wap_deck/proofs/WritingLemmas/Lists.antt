-- What is written for lists that other lists give.
use Rattle.std.proofs.Common.{◌≡◌, List, [], ◌∷◌, ◌++◌, map, refl, sym, ap, ◌∙◌}
use Rattle.std.specs.List.{flat_map}
use Rattle.wap_tokens.specs.declared.markup.codes.TheConstants.{END}
use Rattle.wap_wbxml.specs.declared.spelling.output.Output.{Output}
use Rattle.wap_wbxml.specs.spelling.Writings.{Writing, plain, ◌⨾◌, each, ended}
use Rattle.wap_wbxml.specs.spelling.Written.{written}
use Rattle.wap_wbxml.proofs.SpellingLemmas.Appending.{written_then, written_none}

module _ {A : Type 0} (write : A → Writing) where
  each_both : (xs ys : List A) (output : Output)
      → written (each write ys) (written (each write xs) output)
      ≡ written (each write (xs ++ ys)) output
  unfolding each
  each_both [] ys output = ap (written (each write ys)) (written_none output)
  each_both (x ∷ xs) ys output =
      ap (written (each write ys)) (sym (written_then (write x) (each write xs) output))
      ∙ each_both xs ys (written (write x) output)
      ∙ written_then (write x) (each write (xs ++ ys)) output

  pub each_one : (x : A) (output : Output)
      → written (write x) output ≡ written (each write (x ∷ [])) output
  unfolding each
  each_one x output =
      sym (written_none (written (write x) output)) ∙ written_then (write x) (plain []) output

module _ {A B : Type 0} (write : B → Writing) where
  -- items that give lists
  pub each_flat : (gives : A → List B) (other : A → Writing)
      → ((x : A) (output : Output)
      → written (other x) output ≡ written (each write (gives x)) output)
      → (xs : List A) (output : Output)
      → written (each other xs) output ≡ written (each write (flat_map gives xs)) output
  unfolding each
  each_flat gives other same [] output = refl
  each_flat gives other same (x ∷ xs) output =
      sym (written_then (other x) (each other xs) output)
      ∙ ap (written (each other xs)) (same x output)
      ∙ each_flat gives other same xs (written (each write (gives x)) output)
      ∙ each_both write (gives x) (flat_map gives xs) output

  -- items that give one each
  each_map : (f : A → B) (xs : List A) → each (λ x. write (f x)) xs ≡ each write (map f xs)
  unfolding each
  each_map f [] = refl
  each_map f (x ∷ xs) = ap (λ (w : Writing). write (f x) ⨾ w) (each_map f xs)

  pub ended_map : (f : A → B) (xs : List A) → ended (λ x. write (f x)) xs ≡ ended write (map f xs)
  ended_map f [] = refl
  ended_map f (x ∷ xs) = ap (λ (w : Writing). w ⨾ plain (END ∷ [])) (each_map f (x ∷ xs))
