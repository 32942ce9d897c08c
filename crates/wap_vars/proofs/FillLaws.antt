-- Filling goes part by part, and the worked rows.
use Rattle.std.proofs.Common.{◌≡◌, ℕ, List, [], ◌∷◌, ◌++◌, refl}
use Rattle.std.specs.Prelude.{codes}
use Rattle.std.proofs.lemmas.List.Concat.{flat_map-append}
use Rattle.wap_base.specs.declared.name.Part.{Part}
use Rattle.wap_base.specs.declared.name.Part.TheVariants.{Lit, Var}
use Rattle.wap_base.specs.declared.name.Conv.TheVariants.{Escape, Plain}
use Rattle.wap_vars.specs.Filling.{part_text, filled}

pub filled_append : (vars : List (List ℕ × List ℕ)) (front rest : List Part)
    → filled vars (front ++ rest) ≡ filled vars front ++ filled vars rest
filled_append vars front rest = flat_map-append (part_text vars) front rest

-- a reference to a variable as it is, and one to a variable that isn't set
plain_row : filled ((codes "x", codes "a b") ∷ []) (Var (codes "x") Plain ∷ []) ≡ codes "a b"
plain_row = refl

unset_row : filled [] (Lit (codes "<") ∷ Var (codes "x") Escape ∷ Lit (codes ">") ∷ []) ≡ codes "<>"
unset_row = refl
