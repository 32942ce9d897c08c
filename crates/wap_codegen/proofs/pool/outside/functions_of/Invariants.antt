use Rattle.std.proofs.Common.{◌≡◌, [], map, drop}
use Rattle.wap_codegen.specs.pool.Names.{with_names}
use Rattle.wap_codegen.proofs.pool.outside.functions_of.Given as goal

-- with the names of the rest all are there
abbrev pub invariant-loop-function : goal.invariant-loop-function
invariant-loop-function l =
    with_names l.names (map (λ f. f.name.name) (drop l.function-index l.functions))
    ≡ with_names [] (map (λ f. f.name.name) l.functions)
