use Rattle.std.proofs.Common.{Err, sym, ap, ◌∙◌, subst}
use Rattle.std.proofs.lemmas.Result.{err_from_is_err_and}
use Rattle.wap_tokens.specs.declared.markup.deck.Deck.{Deck}
use Rattle.wap_pages.specs.declared.fault.PageErr.TheVariants as error
use Rattle.wap_pages.specs.Refusals.{IsDeckRefused}
use Rattle.wap_pages.proofs.Refusing.{by_document, by_deck, err_is}
use Rattle.wap_cli.proofs.inspect.documents.good_deck_in.Goals as goal

pub returns-in_err-deck-clause-refused : goal.returns-in_err-deck-clause-refused
returns-in_err-deck-clause-refused c = λ why is.
    let left = err_from_is_err_and c.from_residual.result c.from_residual.ensures.1 in
    by_document c.args.bytes.now why
    (c.in_err-deck.ensures.refused why
    (ap Err (err_is _ (error.Refused why) (sym (left.1 ∙ ap Err left.2) ∙ is))))

pub returns-in_err-judge-clause-refused : goal.returns-in_err-judge-clause-refused
returns-in_err-judge-clause-refused c = λ why is.
    let found = c.in_ok-deck.ensures.found in
    let left = err_from_is_err_and c.from_residual-in_err-judge.result
    c.from_residual-in_err-judge.ensures.1 in
    by_deck c.args.bytes.now found.0 why found.1
    (subst (λ (deck : Deck). IsDeckRefused deck why) found.2
    (c.in_err-judge.ensures.refused why
    (ap Err (err_is _ (error.Refused why) (sym (left.1 ∙ ap Err left.2) ∙ is)))))

pub returns-in_err-deck-clause-for_fault : goal.returns-in_err-deck-clause-for_fault
returns-in_err-deck-clause-for_fault c = λ why is.
    let left = err_from_is_err_and c.from_residual.result c.from_residual.ensures.1 in
    c.in_err-deck.ensures.for_fault why
    (ap Err (err_is _ (error.Refused why) (sym (left.1 ∙ ap Err left.2) ∙ is)))

pub returns-in_err-judge-clause-for_fault : goal.returns-in_err-judge-clause-for_fault
returns-in_err-judge-clause-for_fault c = λ why is.
    let left = err_from_is_err_and c.from_residual-in_err-judge.result
    c.from_residual-in_err-judge.ensures.1 in
    c.in_err-judge.ensures.for_fault why
    (ap Err (err_is _ (error.Refused why) (sym (left.1 ∙ ap Err left.2) ∙ is)))
