use Rattle.std.proofs.Common.{◌++◌, List, ap, ◌∙◌}
use Rattle.std.specs.List.{flat_map}
use Rattle.wap_grammar.specs.declared.program.program.Use.{Use}
use Rattle.wap_grammar.specs.declared.program.program.Function.{Function}
use Rattle.wap_meaning.specs.needs.Drawn.{function_needs}
use Rattle.wap_codegen.specs.pool.inside.Pools.{kept_needs}
use Rattle.wap_codegen.proofs.PoolLemmas.Pooling.{pools_both, pools_same}
use Rattle.std.proofs.lemmas.Result.{on_ok_weaker}
use Rattle.wap_codegen.proofs.pool.programs.add_constants.Goals as goal

pub returns : goal.returns
returns c =
    on_ok_weaker _ (pools_same (ap (λ (uses : List Use). flat_map kept_needs uses ++ flat_map
    function_needs c.as_slice-2.result.now) c.as_slice.ensures
    ∙ ap (λ (functions : List Function). flat_map kept_needs c.args.program.now.uses ++ flat_map
    function_needs functions) c.as_slice-2.ensures)) (on_ok_weaker _
    (pools_both c.in_ok-add_uses.ensures) c.add_functions.ensures)
