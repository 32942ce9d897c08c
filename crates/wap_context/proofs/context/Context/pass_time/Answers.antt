use Rattle.std.proofs.Common.{◌≡◌, ◌∙◌, ◌-◌, ap, refl, sym, append-nil}
use Rattle.wap_world.specs.declared.timer.Timer.{Timer}
use Rattle.wap_world.specs.declared.timer.Timer.TheVariants.{Running}
use Rattle.wap_world.specs.Shelves.{Shelf}
use Rattle.wap_world.specs.Steps.{still}
use Rattle.wap_world.specs.Keys.{ignored}
use Rattle.wap_context.specs.Acting.{tick}
use Rattle.wap_context.specs.declared.context.Context.TheInside.{Inside}
use Rattle.wap_context.specs.Browsers.{Browser, IsOver, place_held}
use Rattle.wap_context.specs.inside.Ticking.{run_out}
use Rattle.wap_context.proofs.Plays.{over_kept}
use Rattle.wap_context.proofs.Passing.{is_scene, pursues_from, pursues_rejected}
use Rattle.wap_context.proofs.Passing.{tick_none, tick_less, tick_out}
use Rattle.wap_context.proofs.context.Context.pass_time.Goals as goal

-- a browser by its parts
abbrev browser_of : Inside → Browser
browser_of one = record { world = one.state; deck = one.deck }

-- the same with another timer, over the same pages
abbrev later : Timer → Browser → Browser
later time b = record b { world = record b.world { timer = time } }

over_later : (time : Timer) (first old : Browser) → first ≡ old → (shelf : Shelf)
    → IsOver shelf old → IsOver shelf (later time first)
over_later time first old same shelf =
    over_kept shelf old (later time first) (ap (λ (b : Browser). b.deck) same)
    (ap (λ (b : Browser). b.world.history) same)

pub returns-in_default : goal.returns-in_default
returns-in_default g c =
    let old : Browser = c.args.self.now in
    is_scene (tick c.args.time (place_held old)) (g.P.Pages.seen c.args.pages.now) old old
    c.args.lines
    c.add_refusal.new.lines (ignored old.world) refl c.in_ok-add_refusal.ensures.ok
    (λ shelf over. over)
    (λ pages over keys. tick_none c.args.time pages keys old.world (place_held old)
    (sym c.time_left.ensures ∙ c.in_default.is))

pub returns-then-time-left : goal.returns-then-time-left
returns-then-time-left g c =
    let old : Browser = c.args.self.now in
    let time = Running (c.in-Some.left - c.args.time) in
    let same = ap browser_of c.self-inside.view_is ∙ c.self.view_is in
    is_scene (tick c.args.time (place_held old)) _ old _ _ _
    (still (record old.world { timer = time }))
    (ap (λ (b : Browser). (later time b).world) same)
    (sym (append-nil c.args.lines))
    (over_later time _ old same)
    (λ pages over keys. tick_less c.args.time c.in-Some.left pages keys old.world (place_held old)
    (sym c.in-Some.is ∙ c.time_left.ensures) c.if-time-left.true)

pub returns : goal.returns
returns g c =
    let old : Browser = c.args.self.now in
    pursues_from (tick c.args.time (place_held old)) (run_out (place_held old))
    (g.P.Pages.seen c.args.pages.now)
    (g.P.Pages.seen c.run_out.new.pages) c.args.self.now c.run_out.new.self c.args.lines
    c.run_out.result
    (λ pages over keys. tick_out c.args.time c.in-Some.left pages keys old.world (place_held old)
    (sym c.in-Some.is ∙ c.time_left.ensures) c.if-time-left.false)
    c.run_out.ensures

pub returns-in_err-add_refusal : goal.returns-in_err-add_refusal
returns-in_err-add_refusal g c =
    pursues_rejected c.from_residual.result c.from_residual.ensures.0 c.from_residual.ensures.1
