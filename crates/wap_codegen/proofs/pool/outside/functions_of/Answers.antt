use Rattle.std.proofs.Common.{◌∙◌, map, sym}
use Rattle.std.proofs.lemmas.List.{at_drop_all}
use Rattle.wap_grammar.specs.declared.program.program.Function.{Function}
use Rattle.wap_codegen.specs.pool.Names.{with_names}
use Rattle.wap_codegen.proofs.PoolLemmas.Declared.{functions_more}
use Rattle.wap_codegen.proofs.pool.outside.functions_of.Goals as goal

pub loop-function-preserved : goal.loop-function-preserved
loop-function-preserved c =
    functions_more c.args.functions.now c.loop-function.function-index c.function-item.result
    c.loop-function.names c.add.new.self c.loop-function-test.true c.function-item.is
    c.in_ok-add.ensures
    ∙ c.loop-function.invariant

pub returns : goal.returns
returns c =
    sym (at_drop_all (λ fs. with_names c.loop-function.names
    (map (λ (f : Function). f.name.name) fs)) c.args.functions.now c.loop-function.function-index
    c.loop-function-test.false)
    ∙ c.loop-function.invariant
