use Rattle.wap_world.proofs.SiteLemmas.Asking.{Stays-same}
use Rattle.wap_world.specs.Screens.{show}
use Rattle.wap_session.proofs.Rules.{Acts-shows, Acts-wants}
use Rattle.wap_session.proofs.keys.act_or_show.Goals as goal

pub returns-in-Some : goal.returns-in-Some
returns-in-Some g c = rw c.in-Some.is c.act.ensures

pub returns-in_ok-show-in-None : goal.returns-in_ok-show-in-None
returns-in_ok-show-in-None g c =
    rw c.in-None.is (Acts-shows show (g.P.Pages.seen c.args.pages.now) c.args.context.now
    c.show.new.self c.in_ok-show-in-None.field-0 c.in_ok-show-in-None.ensures.shows)

pub returns-in_err-show-in-None : goal.returns-in_err-show-in-None
returns-in_err-show-in-None g c =
    Acts-wants _ (g.P.Pages.seen c.args.pages.now) (g.P.Pages.seen c.args.pages.now)
    c.args.context.now c.show.new.self c.from_residual.result
    (Stays-same (g.P.Pages.seen c.args.pages.now)) c.from_residual.ensures.1
