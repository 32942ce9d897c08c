use Rattle.std.proofs.lemmas.Result.{err_from_is_err_and}
use Rattle.wap_wbxml.proofs.MadeElements.{root_element, root_stopped}
use Rattle.wap_wbxml.proofs.documents.read_root_parts.Goals as goal

pub returns : goal.returns
returns g c =
    rw (root_element g.B.Builder.makes c.args.input.now c.args.state.now c.args.lead
    c.args.bytes.now c.read_tag.new.state c.in_ok-token.token c.in_ok-token.rest.now
    (rw c.go_to_tag_page.ensures at c.in_ok-token.ensures))
    (rw c.root_tag-tag.ensures at c.read_node.ensures)

pub returns-in_err-token : goal.returns-in_err-token
returns-in_err-token g c =
    let fault = c.in_err-token.field-0.0 in
    let left = err_from_is_err_and c.from_residual.result c.from_residual.ensures.1 in
    rw (left.1, left.2) (λ other. root_stopped g.B.Builder.makes c.args.input.now
    c.args.state.now c.args.lead c.args.bytes.now fault
    (rw c.go_to_tag_page.ensures at (c.in_err-token.ensures other)))
