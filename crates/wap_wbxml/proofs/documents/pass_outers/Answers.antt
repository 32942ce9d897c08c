use Rattle.std.proofs.Common.{ap, length, Bool, Ok, ◌∙◌}
use Rattle.std.proofs.lemmas.Result.{err_from_is_err_and}
use Rattle.wap_wbxml.specs.reading.ByteReading.{all_by}
use Rattle.wap_wbxml.specs.reading.BodyReading.{as_none}
use Rattle.wap_wbxml.specs.reading.Making.{unit, passed, outers_passed}
use Rattle.wap_wbxml.specs.reading.Whole.{next_outer, outers_at}
use Rattle.wap_wbxml.proofs.Loops.{begins, one_more, stopped}
use Rattle.wap_wbxml.proofs.MadeBodies.{none_passed}
use Rattle.wap_wbxml.proofs.documents.pass_outers.Goals as goal

pub loop-init : goal.loop-init
unfolding outers_at all_by
loop-init g c =
    begins passed (next_outer c.args.input.now) as_none (λ attrs. unit) unit none_passed
    (length c.args.bytes.now) c.args.state.now c.args.bytes.now

pub loop-preserved : goal.loop-preserved
loop-preserved g c =
    let input = c.args.input.now in
    let bytes = c.args.bytes.now in
    let state = c.pass_outer.new.state in
    one_more passed (next_outer input) as_none
    (length bytes) c.loop.counter unit c.loop.state c.loop.rest.now
    (outers_passed input c.args.state.now bytes)
    unit state c.in_ok-more.after.now c.loop-test.true
    (c.in_ok-more.ensures ∙ ap (λ (more : Bool). Ok
    (((more, unit), state), c.in_ok-more.after.now)) c.if-not-more.false)
    c.loop.invariant

pub returns-in_err-more : goal.returns-in_err-more
returns-in_err-more g c =
    let fault = c.in_err-more.field-0.0 in
    let left = err_from_is_err_and c.from_residual.result c.from_residual.ensures.1 in
    let input = c.args.input.now in
    let bytes = c.args.bytes.now in
    rw (left.1, left.2) (λ other. stopped passed (next_outer input) as_none (length bytes)
    c.loop.counter unit c.loop.state c.loop.rest.now
    (outers_passed input c.args.state.now bytes)
    fault c.loop-test.true (c.in_err-more.ensures other) c.loop.invariant)
