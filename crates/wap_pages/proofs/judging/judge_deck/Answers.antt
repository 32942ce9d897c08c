use Rattle.std.proofs.Common.{Result, Err, sym, ap, ◌∙◌, subst}
use Rattle.std.proofs.lemmas.Result.{err_from_is_err_and}
use Rattle.wap_tokens.specs.declared.markup.deck.Deck.{Deck}
use Rattle.wap_world.specs.declared.site.page.Page.{Page}
use Rattle.wap_pages.specs.declared.fault.PageErr.{PageErr}
use Rattle.wap_pages.specs.declared.kind.Kind.TheVariants as kind
use Rattle.wap_pages.specs.inside.Judging.{Judges, JudgesDeck}
use Rattle.wap_pages.proofs.Refusing.{by_document}
use Rattle.wap_pages.proofs.Judgements.{unread, document_read}
use Rattle.wap_pages.proofs.judging.judge_deck.Goals as goal

pub returns-in_err-deck : goal.returns-in_err-deck
returns-in_err-deck c =
    let left = err_from_is_err_and c.from_residual.result c.from_residual.ensures.1 in
    subst (λ (r : Result Page PageErr). Judges kind.Deck c.args.bytes.now r)
    (sym (left.1 ∙ ap Err left.2))
    (unread kind.Deck c.args.bytes.now c.in_err-deck.field-0.0 (λ why is.
    by_document c.args.bytes.now why (c.in_err-deck.ensures.refused why (ap Err is)))
    (λ why is. c.in_err-deck.ensures.for_fault why (ap Err is)))

pub returns : goal.returns
returns c =
    let found = c.in_ok-deck.ensures.found in
    document_read c.args.bytes.now found.0 found.1 c.judge_read.result
    (subst (λ (deck : Deck). JudgesDeck deck c.judge_read.result) found.2 c.judge_read.ensures)
