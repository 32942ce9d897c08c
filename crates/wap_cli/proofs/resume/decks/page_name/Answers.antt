use Rattle.wap_cli.proofs.ResumeLemmas.Naming.{named_by}
use Rattle.wap_cli.proofs.resume.decks.page_name.Goals as goal

pub returns-in-Ok : goal.returns-in-Ok
returns-in-Ok c =
    named_by c.args.text.now c.in-Ok.url c.name_of.result c.in-Ok.ensures.exact
    c.name_of.ensures.exact
