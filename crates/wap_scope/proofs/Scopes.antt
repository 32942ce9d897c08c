-- What is looked up is what the program has.
use Rattle.std.proofs.Common.{◌≡◌, ℕ, List, Option, ap, ◌∙◌}
use Rattle.std.specs.Map.{lookup}
use mathlib.Core.Path.{fun_ext}
use Rattle.wap_base.specs.Texts.{is_same_text}
use Rattle.wap_grammar.specs.declared.program.program.Program.{Program}
use Rattle.wap_scope.specs.declared.globals.Globals.{Globals}
use Rattle.wap_scope.specs.Names.{units}
use Rattle.wap_scope.specs.Scoped.{arity_of}
use Rattle.wap_scope.specs.Faults.{Scope, scope_of}
use Rattle.wap_scope.specs.inside.Globals.{Counts, scope_by}

pub same_scope : (globals : Globals) (p : Program) → globals.units ≡ units p.uses →
    Counts p.functions globals.arities → scope_by globals ≡ scope_of p
same_scope globals p of_units of_functions =
    let arity : List ℕ → Option ℕ = λ name. lookup (is_same_text name) globals.arities in
    let same : arity ≡ arity_of p.functions = fun_ext of_functions in
    let with_units : List (List ℕ) → Scope = λ units. record { units = units; arity = arity } in
    let with_arity : (List ℕ → Option ℕ) → Scope = λ arity.
    record { units = units p.uses; arity = arity } in
    ap with_units of_units ∙ ap with_arity same
