use Rattle.std.proofs.Common.{drop}
use Rattle.std.specs.List.{AllByRecursion}
use Rattle.wap_image.specs.inside.Fitting.{OfVariable}
use Rattle.wap_image.proofs.knowing.know_variables.Given as goal

-- it is left to know it of the variables that are left
abbrev pub invariant-loop-variable : goal.invariant-loop-variable
invariant-loop-variable l =
    AllByRecursion OfVariable (drop l.variable-index l.variables)
    → AllByRecursion OfVariable l.variables
