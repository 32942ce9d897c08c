use Rattle.std.proofs.Common.{ap, length, Bool, Ok, ◌∙◌}
use Rattle.std.proofs.lemmas.Result.{err_from_is_err_and}
use Rattle.wap_wbxml.specs.reading.ByteReading.{all_by}
use Rattle.wap_wbxml.specs.reading.BodyReading.{as_short, next_attribute, attributes_at}
use Rattle.wap_wbxml.specs.reading.Gathering.{read_as, gathered}
use Rattle.wap_wbxml.specs.reading.Making.{attribute_added, attributes_made}
use Rattle.wap_wbxml.proofs.Loops.{begins, one_more, stopped}
use Rattle.wap_wbxml.proofs.attributes.read_attributes.Goals as goal

pub loop-init : goal.loop-init
unfolding attributes_at all_by
loop-init g c =
    let input = c.args.input.now in
    let makes = g.B.Builder.makes in
    begins (attribute_added makes) (next_attribute input) (as_short input.total)
    (attributes_made makes) c.in_ok-attributes.attributes
    (λ attrs. ap (λ known. gathered (attribute_added makes) known attrs)
    c.in_ok-attributes.ensures)
    (length c.args.bytes.now) c.args.state.now c.args.bytes.now

pub loop-preserved : goal.loop-preserved
loop-preserved g c =
    let input = c.args.input.now in
    let bytes = c.args.bytes.now in
    let makes = g.B.Builder.makes in
    let attributes = c.add_next_attribute.new.attributes in
    let state = c.add_next_attribute.new.state in
    one_more (attribute_added makes) (next_attribute input) (as_short input.total)
    (length bytes) c.loop.counter c.loop.attributes c.loop.state c.loop.rest.now
    (read_as (attributes_made makes) (attributes_at input c.args.state.now bytes))
    attributes state c.in_ok-more.after.now c.loop-test.true
    (c.in_ok-more.ensures ∙ ap (λ (more : Bool). Ok
    (((more, attributes), state), c.in_ok-more.after.now)) c.if-not-more.false)
    c.loop.invariant

pub returns-in_err-more : goal.returns-in_err-more
returns-in_err-more g c =
    let fault = c.in_err-more.field-0.0 in
    let left = err_from_is_err_and c.from_residual-in_err-more.result
    c.from_residual-in_err-more.ensures.1 in
    let input = c.args.input.now in
    let bytes = c.args.bytes.now in
    let makes = g.B.Builder.makes in
    rw (left.1, left.2) (λ other. stopped (attribute_added makes)
    (next_attribute input) (as_short input.total) (length bytes)
    c.loop.counter c.loop.attributes c.loop.state c.loop.rest.now
    (read_as (attributes_made makes) (attributes_at input c.args.state.now bytes))
    fault c.loop-test.true (c.in_err-more.ensures other) c.loop.invariant)
