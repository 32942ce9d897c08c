use Rattle.std.proofs.Common.{false, ℕ, List, ◌++◌, map, ap, ◌∙◌, subst}
use Rattle.std.specs.List.{flat_map}
use Rattle.wap_grammar.specs.declared.program.program.Id.{Id}
use Rattle.wap_grammar.specs.declared.program.statement.Stmt.{Stmt}
use Rattle.wap_scope.specs.Names.{Declares, mentions, said}
use Rattle.wap_codegen.specs.pool.inside.Declaring.{Declaring}
use Rattle.wap_codegen.proofs.PoolLemmas.Declared.{declaring_same, declaring_both}
use Rattle.wap_codegen.proofs.pool.variables.variables_of.Goals as goal

pub returns : goal.returns
returns c =
    subst (λ (names : List (List ℕ)). Declaring (said c.args.function.now) names
    c.add_statements.new.names) c.new-names.ensures
    (declaring_same (ap (λ (params : List Id). map Declares params ++ flat_map
    (λ s. mentions s false) c.as_slice-2.result.now) c.as_slice.ensures
    ∙ ap (λ (body : List Stmt). map Declares c.args.function.now.params
    ++ flat_map (λ s. mentions s false) body) c.as_slice-2.ensures)
    (declaring_both c.in_ok-add_parameters.ensures (c.in_ok-add_statements.ensures false)))
