use Rattle.std.proofs.Common.{◌<◌, ◌≡◌, List, length, get_or, subst, arith}
use Rattle.wap_unit.specs.declared.unit.Code.{Code}
use Rattle.wap_dis.specs.Listing.{function_lines}
use Rattle.wap_dis.specs.inside.Gathered.{state}
use Rattle.wap_dis.proofs.Lists.{puts_indexed}
use Rattle.wap_dis.proofs.listed.put_functions.Goals as goal

pub loop-index-preserved : goal.loop-index-preserved
loop-index-preserved g c =
    let items : List Code = c.as_slice-function-items.result.now in
    let function : Code = c.function-item.result in
    let inside : c.loop-index.index < length items = omega arith in
    let within : c.loop-index.index < length c.args.unit.now.functions =
    subst (λ (l : List Code). c.loop-index.index < length l)
    c.as_slice-function-items.ensures inside in
    let is : function ≡ get_or c.args.unit.now.functions c.loop-index.index function =
    subst (λ (l : List Code). function ≡ get_or l c.loop-index.index function)
    c.as_slice-function-items.ensures c.function-item.is in
    puts_indexed (g.O.Sink.seen c.args.out.now) (g.O.Sink.seen c.loop-index.out)
    (g.O.Sink.seen c.put_function.new.out)
    (state c.args.held.now) (state c.loop-index.held) (state c.put_function.new.held)
    function (function_lines c.args.unit.now) c.args.unit.now.functions c.loop-index.index function
    within is c.loop-index.invariant c.put_function.ensures
