use Rattle.std.proofs.Common.{ap, length, Bool, Ok, refl, ◌∙◌}
use Rattle.std.proofs.lemmas.Result.{err_from_is_err_and}
use Rattle.wap_wbxml.specs.reading.ByteReading.{all_by}
use Rattle.wap_wbxml.specs.reading.BodyReading.{as_none, next_piece, pieces_at}
use Rattle.wap_wbxml.specs.reading.Gathering.{read_as}
use Rattle.wap_wbxml.specs.reading.Making.{pieces_added}
use Rattle.wap_wbxml.proofs.Loops.{begins, one_more, stopped}
use Rattle.wap_wbxml.proofs.attributes.add_pieces.Goals as goal

pub loop-init : goal.loop-init
unfolding pieces_at all_by
loop-init g c =
    let makes = g.B.Builder.makes in
    begins makes.piece_added (next_piece c.args.input.now) as_none
    (pieces_added makes c.args.attribute.now) c.args.attribute.now (λ pieces. refl)
    (length c.args.bytes.now) c.args.state.now c.args.bytes.now

pub loop-preserved : goal.loop-preserved
loop-preserved g c =
    let input = c.args.input.now in
    let bytes = c.args.bytes.now in
    let makes = g.B.Builder.makes in
    let attribute = c.add_next_piece.new.attribute in
    let state = c.add_next_piece.new.state in
    one_more makes.piece_added (next_piece input) as_none
    (length bytes) c.loop.counter c.loop.attribute c.loop.state c.loop.rest.now
    (read_as (pieces_added makes c.args.attribute.now) (pieces_at input c.args.state.now bytes))
    attribute state c.in_ok-more.after.now c.loop-test.true
    (c.in_ok-more.ensures ∙ ap (λ (more : Bool). Ok
    (((more, attribute), state), c.in_ok-more.after.now)) c.if-not-more.false)
    c.loop.invariant

pub returns-in_err-more : goal.returns-in_err-more
returns-in_err-more g c =
    let fault = c.in_err-more.field-0.0 in
    let left = err_from_is_err_and c.from_residual.result c.from_residual.ensures.1 in
    let input = c.args.input.now in
    let bytes = c.args.bytes.now in
    let makes = g.B.Builder.makes in
    rw (left.1, left.2) (λ other. stopped makes.piece_added (next_piece input) as_none
    (length bytes) c.loop.counter c.loop.attribute c.loop.state c.loop.rest.now
    (read_as (pieces_added makes c.args.attribute.now) (pieces_at input c.args.state.now bytes))
    fault c.loop-test.true (c.in_err-more.ensures other) c.loop.invariant)
