-- What is written for items one after the other is read as these items.
use Rattle.std.proofs.Common.{◌≡◌, ℕ, Bool, true, false, List, [], ◌∷◌, ◌++◌, refl, sym, subst}
use Rattle.std.specs.List.{fold, AllByRecursion}
use Rattle.wap_tokens.specs.declared.markup.codes.TheConstants.{END}
use Rattle.wap_tokens.specs.markup.Spellings.{When, Many, none, more, Ended}
use Rattle.wap_tokens.specs.markup.Grammar.{State}
use Rattle.wap_wbxml.specs.declared.spelling.output.Pages.{Pages}
use Rattle.wap_wbxml.specs.spelling.Writings.{Writing, ◌⨾◌, each, ended}

-- the state in a root, on some pages and after some names
abbrev pub state_at : Pages → List (List ℕ) → State
state_at pages names =
    record { tag_page = pages.tag; attribute_page = pages.attribute; in_root = true; names = names }

-- whether there are any
abbrev pub some_of : {A : Type 0} → List A → Bool
some_of [] = false
some_of (x ∷ xs) = true

module _ {A N : Type 0} (write : A → Writing) (step : N → A → N) (state : Pages → N → State)
    (Is : State → List ℕ → A × State → Type 0) (Right : A → Type 0) (Fits : N → Type 0)
    (down : (n : N) (x : A) → Fits (step n x) → Fits n)
    (one : (pages : Pages) (n : N) (x : A) → Right x → Fits (step n x)
    → Is (state pages n) (write x pages).0 (x, state (write x pages).1 (step n x))) where
  down_all : (n : N) (xs : List A) → Fits (fold step n xs) → Fits n
  down_all n [] fits = fits
  down_all n (x ∷ xs) fits = down n x (down_all (step n x) xs fits)

  pub many_read : (pages : Pages) (n : N) (xs : List A) → AllByRecursion Right xs
      → Fits (fold step n xs)
      → Many Is (state pages n) (each write xs pages).0 xs
      (state (each write xs pages).1 (fold step n xs))
  unfolding each ◌⨾◌
  many_read pages n [] right fits = none (state pages n)
  many_read pages n (x ∷ xs) right fits =
      let first = write x pages in
      let rest = each write xs first.1 in
      more (state pages n) first.0 x (state first.1 (step n x)) rest.0 xs
      (state rest.1 (fold step (step n x) xs))
      (one pages n x right.0 (down_all (step n x) xs fits))
      (many_read first.1 (step n x) xs right.1 fits)

  -- with their end, where there are any
  pub ended_read : (b : Bool) (pages : Pages) (n : N) (xs : List A) → b ≡ some_of xs
      → AllByRecursion Right xs
      → Fits (fold step n xs)
      → When b (state pages n) (Ended END Is) (ended write xs pages).0
      (xs, state (ended write xs pages).1 (fold step n xs))
  unfolding ◌⨾◌
  ended_read b pages n [] is right fits =
      subst (λ (b : Bool). When b (state pages n) (Ended END Is) [] ([], state pages n))
      (sym is) (refl, refl)
  ended_read b pages n (x ∷ xs) is right fits =
      let all = each write (x ∷ xs) pages in
      let after = state all.1 (fold step n (x ∷ xs)) in
      subst (λ (b : Bool).
      When b (state pages n) (Ended END Is) (all.0 ++ END ∷ []) (x ∷ xs, after)) (sym is)
      (record { front = all.0; spelled = refl; items = many_read pages n (x ∷ xs) right fits })
