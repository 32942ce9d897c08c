-- How many functions and variables a program has whose names are in order, and what code is made
-- from.
use Rattle.std.proofs.Common.{◌≤◌, length, All}
use Rattle.wap_grammar.specs.declared.program.program.Function.{Function}
use Rattle.wap_grammar.specs.declared.program.program.Program.{Program}
use Rattle.wap_scope.specs.Scoped.{IsScoped}
use Rattle.wap_scope.specs.accepted.Known.{variables}
use Rattle.wap_scope.proofs.AcceptedLemmas.Places.{all_by_places}
use Rattle.wap_codegen.proofs.PoolLemmas.Once.{variables_once}
use Rattle.wap_compiled_laws.specs.Laws.{HasForms}
use Rattle.wap_compiled_laws.proofs.Functions as counted
use Rattle.wap_codegen.specs.inside.Units.{CanBeMade}

module _ (p : Program) (scoped : IsScoped p) where
  -- a program has at most so many functions
  pub few_functions : length p.functions ≤ 255
  few_functions = counted.few_functions p scoped

  -- a function has at most so many variables
  pub few_variables : All (λ f. length (variables f) ≤ 255) p.functions
  few_variables = all_by_places (λ (f : Function). length (variables f) ≤ 255) p.functions
      (λ earlier f later functions. counted.few_variables p scoped f
      (record { earlier = earlier; later = later; functions = functions }))

  -- code can be made for the functions
  pub can_be_made : All (HasForms p) p.functions → All (CanBeMade p) p.functions
  can_be_made forms i d within = record {
    forms = forms i d within;
    once = variables_once p scoped i d within;
    few = few_variables i d within;
  }
