use Rattle.std.proofs.Common.{refl, sym, subst}
use Rattle.wap_devices.specs.declared.store.Fetched.{Fetched}
use Rattle.wap_pages.specs.declared.fault.PageFault.TheVariants.{Missing}
use Rattle.wap_cli.specs.declared.status.Status.TheVariants.{Refused}
use Rattle.wap_cli.specs.Answers.{Answers, page_of}
use Rattle.wap_cli.proofs.pages.answer_page.Goals as goal

-- there is no page
pub returns-in-Missing : goal.returns-in-Missing
returns-in-Missing g c =
    let sink = g.O.Sink.seen c.args.out.now in
    subst (λ (page : Fetched). Answers c.args.command (page_of page) sink sink (Refused Missing))
    (sym c.in-Missing.is) (Answers.refused Missing refl refl (λ text has. has) refl)
