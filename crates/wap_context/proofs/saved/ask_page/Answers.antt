use Rattle.wap_context.proofs.Reviving.{asks_rejected}
use Rattle.wap_context.proofs.saved.ask_page.Goals as goal

pub returns-in_err-name : goal.returns-in_err-name
returns-in_err-name g c =
    asks_rejected c.args.entry.now.url (g.P.Pages.seen c.args.pages.now) c.from_residual.result
    c.from_residual.ensures.0 c.from_residual.ensures.1
