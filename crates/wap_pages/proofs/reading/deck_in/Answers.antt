use Rattle.std.proofs.Common.{Err, sym, ap, ◌∙◌}
use Rattle.std.proofs.lemmas.Result.{err_from_is_err_and}
use Rattle.wap_pages.specs.declared.fault.PageErr.TheVariants as error
use Rattle.wap_pages.proofs.Memory.{document_fault}
use Rattle.wap_pages.proofs.Refusing.{document_refused, err_is}
use Rattle.wap_pages.proofs.reading.deck_in.Goals as goal

pub returns-in_err-read_deck-clause-refused : goal.returns-in_err-read_deck-clause-refused
returns-in_err-read_deck-clause-refused c = λ why is.
    let left = err_from_is_err_and c.from_residual.result c.from_residual.ensures.1 in
    document_refused c.args.bytes.now c.in_err-read_deck.field-0.0 why
    c.in_err-read_deck.ensures.refused
    (err_is _ (error.Refused why) (sym (left.1 ∙ ap Err left.2) ∙ is))

pub returns-in_err-read_deck-clause-for_fault : goal.returns-in_err-read_deck-clause-for_fault
returns-in_err-read_deck-clause-for_fault c = λ why is.
    let left = err_from_is_err_and c.from_residual.result c.from_residual.ensures.1 in
    document_fault c.in_err-read_deck.field-0.0 why
    (err_is _ (error.Refused why) (sym (left.1 ∙ ap Err left.2) ∙ is))
