use Rattle.std.proofs.Common.{ap, sym, length, Bool, true, Ok, refl, ◌∙◌, arith}
use Rattle.std.proofs.lemmas.Result.{err_from_is_err_and}
use Rattle.wap_tokens.specs.markup.Grammar.{State, on_tag_page}
use Rattle.wap_wbxml.specs.reading.ByteReading.{told, all_by}
use Rattle.wap_wbxml.specs.reading.BodyReading.{as_short, next_kid, kids_at, element_at}
use Rattle.wap_wbxml.specs.reading.Gathering.{read_as}
use Rattle.wap_wbxml.specs.reading.Making.{kid_added, kids_added}
use Rattle.wap_wbxml.proofs.Loops.{begins, one_more, stopped}
use Rattle.wap_wbxml.proofs.MadeContents.{element_next, instruction_next, with_leaf, leaf_next}
use Rattle.wap_wbxml.proofs.MadeElements.{known_element, unknown_element, deeper}
use Rattle.wap_wbxml.proofs.elements.+content.Goals as goal

pub add_kids-loop-init : goal.add_kids-loop-init
unfolding kids_at all_by
add_kids-loop-init g t c =
    let input = c.args.input.now in
    let makes = g.B.Builder.makes in
    begins (kid_added makes c.args.levels) (next_kid input (element_at input c.args.levels))
    (as_short input.total) (kids_added makes c.args.levels c.args.content.now) c.args.content.now
    (λ kids. refl) (length c.args.bytes.now) c.args.state.now c.args.bytes.now

pub add_kids-loop-preserved : goal.add_kids-loop-preserved
add_kids-loop-preserved g t c =
    let input = c.args.input.now in
    let bytes = c.args.bytes.now in
    let makes = g.B.Builder.makes in
    let inner = element_at input c.args.levels in
    let content = c.add_next_kid.new.content in
    let state = c.add_next_kid.new.state in
    one_more (kid_added makes c.args.levels) (next_kid input inner) (as_short input.total)
    (length bytes) c.loop.counter c.loop.content c.loop.state c.loop.rest.now
    (read_as (kids_added makes c.args.levels c.args.content.now)
    (kids_at input inner c.args.state.now bytes))
    content state c.in_ok-more.after.now c.loop-test.true
    (c.in_ok-more.ensures ∙ ap (λ (more : Bool). Ok
    (((more, content), state), c.in_ok-more.after.now)) c.if-not-more.false)
    c.loop.invariant

pub add_element-returns : goal.add_element-returns
add_element-returns g t c =
    rw (← deeper g.B.Builder.makes c.args.input.now c.args.state.now c.args.lead c.args.bytes.now
    c.args.levels c.args.content.now (omega arith)) c.add_parts.ensures

pub add_parts-returns-in-Some : goal.add_parts-returns-in-Some
add_parts-returns-in-Some g t c =
    rw (known_element g.B.Builder.makes c.args.input.now c.args.levels c.args.state.now
    c.read_tag.new.state c.args.lead c.in_ok-token.token c.args.bytes.now c.in_ok-token.rest.now
    c.args.content.now c.in-Some.tag (rw c.go_to_tag_page.ensures at c.in_ok-token.ensures)
    (sym c.tag.ensures ∙ c.in-Some.is)) c.add_node.ensures

pub add_parts-returns-in-None : goal.add_parts-returns-in-None
add_parts-returns-in-None g t c =
    rw (unknown_element g.B.Builder.makes c.args.input.now c.args.levels c.args.state.now
    c.read_tag.new.state c.args.lead c.in_ok-token.token c.args.bytes.now c.in_ok-token.rest.now
    c.args.content.now (rw c.go_to_tag_page.ensures at c.in_ok-token.ensures)
    (sym c.tag.ensures ∙ c.in-None.is)) c.add_content.ensures

pub add_kids-returns-in_err-more : goal.add_kids-returns-in_err-more
add_kids-returns-in_err-more g t c =
    let fault = c.in_err-more.field-0.0 in
    let left = err_from_is_err_and c.from_residual.result c.from_residual.ensures.1 in
    let input = c.args.input.now in
    let bytes = c.args.bytes.now in
    let makes = g.B.Builder.makes in
    let inner = element_at input c.args.levels in
    rw (left.1, left.2) (λ other. stopped (kid_added makes c.args.levels)
    (next_kid input inner) (as_short input.total) (length bytes)
    c.loop.counter c.loop.content c.loop.state c.loop.rest.now
    (read_as (kids_added makes c.args.levels c.args.content.now)
    (kids_at input inner c.args.state.now bytes))
    fault c.loop-test.true (c.in_err-more.ensures other) c.loop.invariant)

pub add_next_kid-returns-in_ok-rest-in-Element : goal.add_next_kid-returns-in_ok-rest-in-Element
add_next_kid-returns-in_ok-rest-in-Element g t c =
    element_next g.B.Builder.makes c.args.levels c.args.content.now c.args.input.now
    c.args.state.now c.in_ok-lead.lead c.args.bytes.now c.in_ok-lead.rest.now
    (rw (c.total.ensures, c.tag_page.ensures) at c.in_ok-lead.ensures)
    (sym c.content_mark.ensures ∙ c.in-Element.is)
    ∙ ap (read_as (λ content. (true, content))) c.in_ok-rest-in-Element.ensures

pub add_next_kid-returns-in_ok-add_instruction-in-Pi :
    goal.add_next_kid-returns-in_ok-add_instruction-in-Pi
add_next_kid-returns-in_ok-add_instruction-in-Pi g t c =
    let known = c.args.content.now in
    let makes = g.B.Builder.makes in
    instruction_next makes c.args.levels known c.args.input.now c.args.state.now
    c.in_ok-lead.lead c.args.bytes.now c.in_ok-lead.rest.now
    (rw (c.total.ensures, c.tag_page.ensures) at c.in_ok-lead.ensures)
    (sym c.content_mark.ensures ∙ c.in-Pi.is)
    ∙ ap (λ read. read_as (λ content. (true, content))
    (read_as (makes.instruction_added known) read))
    c.in_ok-instruction-in-Pi.ensures
    ∙ ap (λ content. Ok (
      ((true, content), c.read_instruction.new.state),
      c.in_ok-instruction-in-Pi.rest.now,
    )) (sym c.in_ok-add_instruction-in-Pi.ensures)

pub add_next_kid-returns-in_ok-add_leaf-in-Leaf : goal.add_next_kid-returns-in_ok-add_leaf-in-Leaf
add_next_kid-returns-in_ok-add_leaf-in-Leaf g t c =
    let known = c.args.content.now in
    let makes = g.B.Builder.makes in
    let after = on_tag_page c.in_ok-lead.lead.page c.args.state.now in
    leaf_next makes c.args.levels known c.args.input.now c.args.state.now
    c.in_ok-lead.lead c.args.bytes.now c.in_ok-lead.rest.now c.in-Leaf.mark
    (rw (c.total.ensures, c.tag_page.ensures) at c.in_ok-lead.ensures)
    (sym c.content_mark.ensures ∙ c.in-Leaf.is)
    ∙ ap (told (with_leaf makes c.args.levels known after)) c.in_ok-leaf-in-Leaf.ensures
    ∙ ap (λ content. Ok (((true, content), after), c.in_ok-leaf-in-Leaf.rest.now))
    (sym c.in_ok-add_leaf-in-Leaf.ensures)
    ∙ ap (λ (state : State). Ok (
      ((true, c.add_leaf.new.content), state),
      c.in_ok-leaf-in-Leaf.rest.now,
    )) (sym c.go_to_tag_page.ensures)
