use Rattle.std.proofs.Common.{◌≡◌, List, [], Ok, subst}
use Rattle.wap_grammar.specs.declared.program.program.Function.{Function}
use Rattle.wap_grammar.specs.declared.program.program.Use.{Use}
use Rattle.wap_scope.specs.Names.{units}
use Rattle.wap_scope.specs.Faults.{one_by_one, use_rule}
use Rattle.wap_scope.specs.inside.Globals.{Counts}
use Rattle.wap_scope.specs.inside.Walks.{unless}
use Rattle.wap_scope.proofs.Programs.{program_judged}
use Rattle.wap_scope.proofs.functions.judge.Goals as goal

pub returns : goal.returns
returns c =
    program_judged c.args.program.now
    (record { units = c.in_ok-units.units; arities = c.in_ok-arities.arities })
    c.as_slice-functions.result.now
    (subst (λ (uses : List Use). unless (one_by_one use_rule [] uses) (Ok (units uses))
    ≡ Ok c.in_ok-units.units) c.as_slice.ensures c.in_ok-units.ensures)
    (subst (λ (functions : List Function). Counts functions c.in_ok-arities.arities)
    c.as_slice-functions.ensures c.in_ok-arities.ensures)
    c.as_slice-functions.ensures c.judge_functions.result c.judge_functions.ensures
