-- A function's variables are its parameters, and then those that it declares.
use Rattle.std.proofs.Common.{◌≡◌, ◌+◌, false, List, [], ◌∷◌, ◌++◌, length, map, arith}
use Rattle.std.specs.List.{flat_map}
use Rattle.wap_grammar.specs.declared.program.program.Id.{Id}
use Rattle.wap_grammar.specs.declared.program.program.Function.{Function}
use Rattle.wap_scope.specs.Names.{Mention, Declares, mentions, said, names_declared}
use Rattle.wap_meaning.specs.Names.{locals}

-- parameters are declared
parameters_first : (params : List Id) (rest : List Mention)
    → length (names_declared (map Declares params ++ rest))
    ≡ length params + length (names_declared rest)
parameters_first [] rest = omega arith
parameters_first (v ∷ params) rest = let more = parameters_first params rest in omega arith

-- as many as both together
pub variables_first : (f : Function)
    → length (names_declared (said f)) ≡ length f.params + length (locals f)
variables_first f = parameters_first f.params (flat_map (λ s. mentions s false) f.body)
