use Rattle.std.proofs.Common.{ap, ◌+◌}
use Rattle.wap_codegen.proofs.Looping.{codes_more, short_more}
use Rattle.wap_codegen.proofs.functions.codes_of.Goals as goal

pub loop-function-preserved : goal.loop-function-preserved
loop-function-preserved c = record {
  index = ap (λ n. n + 1) c.loop-function.invariant.index;
  numbers = c.code_of.ensures.kept;
  codes = codes_more c.args.program.now c.as_slice-function-items.result.now
      c.loop-function.function-index c.function-item.result c.loop-function.codes c.add.new.self
      c.in_ok-code_of.field-0 c.as_slice-function-items.ensures c.loop-function-test.true
      c.function-item.is c.loop-function.invariant.codes c.in_ok-code_of.ensures.found
      c.in_ok-add.ensures.ok;
  short = short_more c.as_slice-function-items.result.now c.args.program.now.functions
      c.loop-function.function-index c.function-item.result c.as_slice-function-items.ensures
      c.loop-function-test.true c.function-item.is c.loop-function.invariant.short
      c.in_ok-code_of.ensures.short;
}
