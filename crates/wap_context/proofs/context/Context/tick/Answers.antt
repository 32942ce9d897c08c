use Rattle.wap_context.specs.Acting.{tick}
use Rattle.wap_context.specs.Browsers.{place_held}
use Rattle.wap_context.proofs.Pursuing.{acts}
use Rattle.wap_context.proofs.context.Context.tick.Goals as goal

pub returns : goal.returns
returns g c =
    acts (tick c.args.time (place_held c.args.self.now)) (g.P.Pages.seen c.args.pages.now)
    (g.P.Pages.seen c.pass_time.new.pages) c.args.self.now c.pass_time.new.self
    c.new-lines.result c.pass_time.result c.new-lines.ensures c.pass_time.ensures
