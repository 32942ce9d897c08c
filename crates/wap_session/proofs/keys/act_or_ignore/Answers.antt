use Rattle.std.proofs.Common.{None, refl}
use Rattle.wap_world.proofs.SiteLemmas.Asking.{Stays-same}
use Rattle.wap_world.specs.Keys.{ignored, act_or}
use Rattle.wap_context.specs.Sites.{site_of}
use Rattle.wap_session.proofs.Rules.{Acts-ignored, Acts-wants}
use Rattle.wap_session.proofs.keys.act_or_ignore.Goals as goal

pub returns-in-Some : goal.returns-in-Some
returns-in-Some g c = rw c.in-Some.is c.act.ensures

pub returns-in_ok-ignore-in-None : goal.returns-in_ok-ignore-in-None
returns-in_ok-ignore-in-None g c =
    rw c.in-None.is (Acts-ignored
    (λ pages keys world. act_or (ignored world) (site_of pages) keys world None)
    (g.P.Pages.seen c.args.pages.now) c.args.context.now c.in_ok-ignore-in-None.field-0
    c.in_ok-ignore-in-None.ensures (λ pages is keys. refl))

pub returns-in_err-ignore-in-None : goal.returns-in_err-ignore-in-None
returns-in_err-ignore-in-None g c =
    Acts-wants _ (g.P.Pages.seen c.args.pages.now) (g.P.Pages.seen c.args.pages.now)
    c.args.context.now c.args.context.now c.from_residual.result
    (Stays-same (g.P.Pages.seen c.args.pages.now)) c.from_residual.ensures.1
