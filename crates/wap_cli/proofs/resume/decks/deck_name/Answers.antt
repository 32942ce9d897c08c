use Rattle.std.proofs.Common.{sym, ◌∙◌}
use Rattle.wap_cli.proofs.ResumeLemmas.Naming.{asked_named}
use Rattle.wap_cli.proofs.resume.decks.deck_name.Goals as goal

pub returns-in_ok-page_name-in-Some : goal.returns-in_ok-page_name-in-Some
returns-in_ok-page_name-in-Some c =
    asked_named c.args.parts.now c.in-Some.field-0-1.now c.in-Some.entry.now
    c.in_ok-page_name-in-Some.field-0 (sym c.as_slice.ensures ∙ c.in-Some.ensures.cases.0)
    c.requires.urls c.in_ok-page_name-in-Some.ensures
