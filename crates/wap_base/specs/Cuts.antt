-- A text that is cut at the first character that passes a test. This project's own.
use Rattle.std.specs.Prelude.{ℕ, Bool, false, if◌then◌else◌, List, [], ◌∷◌, Option, Some, None}

-- what stands before the first character that passes, or all where none does
abbrev pub until : (ℕ → Bool) → List ℕ → List ℕ
until p [] = []
until p (c ∷ cs) = if p c then [] else c ∷ until p cs

-- the first character that passes and what follows it, or nothing where none does
abbrev pub onward : (ℕ → Bool) → List ℕ → List ℕ
onward p [] = []
onward p (c ∷ cs) = if p c then c ∷ cs else onward p cs

-- what follows the first character, if there is one
abbrev pub after_one : List ℕ → Option (List ℕ)
after_one [] = None
after_one (c ∷ cs) = Some cs

-- the first character passes
abbrev pub begins_with : (ℕ → Bool) → List ℕ → Bool
begins_with p [] = false
begins_with p (c ∷ cs) = p c
