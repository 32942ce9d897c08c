-- The strings of a text with one character more at the end. This project's own.
use Rattle.std.specs.Prelude.{ℕ, zero, suc, Bool, ◌==◌, List, [], ◌∷◌, ◌++◌, Option, Some, None}
use Rattle.std.specs.List.{list_any}

abbrev pub after_string : Option (List ℕ) → ℕ → List (Option (List ℕ))
after_string None c = None ∷ Some (c ∷ []) ∷ []
after_string (Some text) c = Some (text ++ c ∷ []) ∷ []

-- strings and one character more; it joins a string at the end
abbrev pub string_after : List (Option (List ℕ)) → ℕ → List (Option (List ℕ))
string_after [] c = Some (c ∷ []) ∷ []
string_after (last ∷ []) c = after_string last c
string_after (first ∷ next ∷ runs) c = first ∷ string_after (next ∷ runs) c

-- the same, where U+0000 stands alone
abbrev pub character_after : List (Option (List ℕ)) → ℕ → List (Option (List ℕ))
character_after runs zero = runs ++ None ∷ []
character_after runs (suc c) = string_after runs (suc c)

-- whether there is U+0000
abbrev pub has_zero : List ℕ → Bool
has_zero cs = list_any (λ c. c == 0) cs
