use Rattle.std.proofs.Common.{refl}
use Rattle.wap_world.specs.Tasks.{open_by}
use Rattle.wap_context.specs.Browsers.{place_held}
use Rattle.wap_context.specs.Sites.{site_of}
use Rattle.wap_context.proofs.Requesting.{opens, turn_onces, budget_onces, onces_rejected}
use Rattle.wap_context.proofs.context.Context.visit_once.Goals as goal

pub returns-then-take_turn : goal.returns-then-take_turn
returns-then-take_turn g c =
    let seen = g.P.Pages.seen c.args.pages.now in
    let old = c.args.self.now in
    turn_onces seen old c.open_url.new.self c.args.lines.now
    (λ pages keys. open_by (site_of pages) (place_held old) keys c.args.url.now)
    (opens seen old c.open_url.new.self c.args.lines.now c.args.url.now) c.take_turn.new.self
    (g.P.Pages.seen c.open_url.new.pages) c.open_url.new.lines c.open_url.result
    (λ pages keys. refl) (c.take_turn.ensures.taken c.if-take_turn.true) c.open_url.ensures

pub returns-in_ok-refuse : goal.returns-in_ok-refuse
returns-in_ok-refuse g c =
    let seen = g.P.Pages.seen c.args.pages.now in
    let old = c.args.self.now in
    budget_onces seen old c.refuse.new.self c.args.lines.now
    (λ pages keys. open_by (site_of pages) (place_held old) keys c.args.url.now)
    (opens seen old c.refuse.new.self c.args.lines.now c.args.url.now) c.take_turn.new.self
    c.refuse.new.lines c.in_ok-refuse.field-0 (λ pages keys. refl)
    (c.take_turn.ensures.left c.if-take_turn.false)
    c.in_ok-refuse.ensures

pub returns-in_err-refuse : goal.returns-in_err-refuse
returns-in_err-refuse g c =
    onces_rejected c.from_residual.result c.from_residual.ensures.0 c.from_residual.ensures.1
