use Rattle.std.proofs.Common.{ap, sym, Ok, ◌∙◌}
use Rattle.std.proofs.lemmas.Result.{err_from_is_err_and}
use Rattle.wap_wbxml.specs.reading.ByteReading.{told}
use Rattle.wap_wbxml.proofs.MadeBodies.{whole_read}
use Rattle.wap_wbxml.proofs.documents.read_whole.Goals as goal

pub returns-in_err-root : goal.returns-in_err-root
returns-in_err-root g c =
    let left = err_from_is_err_and c.from_residual-in_err-root.result
    c.from_residual-in_err-root.ensures.1 in
    let makes = g.B.Builder.makes in
    rw (left.1, left.2) (λ other.
    whole_read makes c.args.kind c.args.total c.in_ok-version.version c.in_ok-public.public
    c.in_ok-identifier.identifier c.in_ok-charset.charset c.in_ok-table.table.now c.args.bytes.now
    c.in_ok-version.rest.now c.in_ok-identifier.rest.now c.in_ok-charset.rest.now
    c.in_ok-table.rest.now c.new-input.result
    c.in_ok-version.ensures c.in_ok-identifier.ensures c.in_ok-charset.ensures
    c.in_ok-table.ensures c.in_ok-public.ensures
    c.new-input.ensures.total c.new-input.ensures.charset c.new-input.ensures.table
    ∙ ap (told (makes.whole c.in_ok-version.version c.in_ok-public.public
    c.in_ok-charset.charset.0))
    (c.in_err-root.ensures other))

pub returns : goal.returns
returns g c =
    let makes = g.B.Builder.makes in
    whole_read makes c.args.kind c.args.total c.in_ok-version.version c.in_ok-public.public
    c.in_ok-identifier.identifier c.in_ok-charset.charset c.in_ok-table.table.now c.args.bytes.now
    c.in_ok-version.rest.now c.in_ok-identifier.rest.now c.in_ok-charset.rest.now
    c.in_ok-table.rest.now c.new-input.result
    c.in_ok-version.ensures c.in_ok-identifier.ensures c.in_ok-charset.ensures
    c.in_ok-table.ensures c.in_ok-public.ensures
    c.new-input.ensures.total c.new-input.ensures.charset c.new-input.ensures.table
    ∙ ap (told (makes.whole c.in_ok-version.version c.in_ok-public.public
    c.in_ok-charset.charset.0))
    c.in_ok-root.ensures
    ∙ ap (λ whole. Ok (whole, c.in_ok-root.rest.now)) (sym c.whole.ensures)
