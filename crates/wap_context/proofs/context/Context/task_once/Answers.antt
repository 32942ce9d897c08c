use Rattle.wap_context.proofs.Requesting.{Tasks, goes, prevs, go_turns, prev_turns, turn_onces}
use Rattle.wap_context.proofs.Requesting.{budget_onces, refresh_onces, onces_rejected}
use Rattle.wap_context.proofs.context.Context.task_once.Goals as goal

pub returns-then-take_turn : goal.returns-then-take_turn
returns-then-take_turn g c =
    let seen = g.P.Pages.seen c.args.pages.now in
    let old = c.args.self.now in
    turn_onces seen old c.go.new.self c.args.lines.now
    (Tasks seen old c.go.new.self c.args.lines.now c.args.task c.args.from)
    (goes seen old c.go.new.self c.args.lines.now c.in-Go.one c.args.from) c.take_turn.new.self
    (g.P.Pages.seen c.go.new.pages) c.go.new.lines c.go.result
    (go_turns seen old c.go.new.self c.args.lines.now c.args.task c.in-Go.one
    c.args.from c.in-Go.is) (c.take_turn.ensures.taken c.if-take_turn.true)
    c.go.ensures

pub returns-then-take_turn-2 : goal.returns-then-take_turn-2
returns-then-take_turn-2 g c =
    let seen = g.P.Pages.seen c.args.pages.now in
    let old = c.args.self.now in
    turn_onces seen old c.prev.new.self c.args.lines.now
    (Tasks seen old c.prev.new.self c.args.lines.now c.args.task c.args.from)
    (prevs seen old c.prev.new.self c.args.lines.now c.in-Prev.sets) c.take_turn-in-Prev.new.self
    (g.P.Pages.seen c.prev.new.pages) c.prev.new.lines c.prev.result
    (prev_turns seen old c.prev.new.self c.args.lines.now c.args.task c.in-Prev.sets
    c.args.from c.in-Prev.is) (c.take_turn-in-Prev.ensures.taken c.if-take_turn-2.true)
    c.prev.ensures

pub returns-in-Go : goal.returns-in-Go
returns-in-Go g c =
    let seen = g.P.Pages.seen c.args.pages.now in
    let old = c.args.self.now in
    budget_onces seen old c.refuse.new.self c.args.lines.now
    (Tasks seen old c.refuse.new.self c.args.lines.now c.args.task c.args.from)
    (goes seen old c.refuse.new.self c.args.lines.now c.in-Go.one c.args.from) c.take_turn.new.self
    c.refuse.new.lines c.in_ok-refuse-in-Go.field-0
    (go_turns seen old c.refuse.new.self c.args.lines.now c.args.task c.in-Go.one
    c.args.from c.in-Go.is)
    (c.take_turn.ensures.left c.if-take_turn.false) c.in_ok-refuse-in-Go.ensures

pub returns-in_err-refuse-in-Go : goal.returns-in_err-refuse-in-Go
returns-in_err-refuse-in-Go g c =
    onces_rejected c.from_residual.result c.from_residual.ensures.0 c.from_residual.ensures.1

pub returns-in-Prev : goal.returns-in-Prev
returns-in-Prev g c =
    let seen = g.P.Pages.seen c.args.pages.now in
    let old = c.args.self.now in
    let new = c.refuse-else-take_turn-2.new.self in
    let lines = c.args.lines.now in
    budget_onces seen old new lines (Tasks seen old new lines c.args.task c.args.from)
    (prevs seen old new lines c.in-Prev.sets) c.take_turn-in-Prev.new.self
    c.refuse-else-take_turn-2.new.lines c.in_ok-refuse-in-Prev.field-0
    (prev_turns seen old new lines c.args.task c.in-Prev.sets c.args.from c.in-Prev.is)
    (c.take_turn-in-Prev.ensures.left c.if-take_turn-2.false) c.in_ok-refuse-in-Prev.ensures

pub returns-in_err-refuse-in-Prev : goal.returns-in_err-refuse-in-Prev
returns-in_err-refuse-in-Prev g c =
    onces_rejected c.from_residual-in_err-refuse-in-Prev.result
    c.from_residual-in_err-refuse-in-Prev.ensures.0 c.from_residual-in_err-refuse-in-Prev.ensures.1

pub returns : goal.returns
returns g c =
    refresh_onces (g.P.Pages.seen c.args.pages.now) c.args.self.now c.refresh.new.self
    c.args.lines.now c.refresh.new.lines c.args.task c.in-Refresh.sets c.args.from c.in-Refresh.is
    c.in_ok-refresh-in-Refresh.ensures

pub returns-in_err-refresh-in-Refresh : goal.returns-in_err-refresh-in-Refresh
returns-in_err-refresh-in-Refresh g c =
    onces_rejected c.from_residual-in_err-refresh-in-Refresh.result
    c.from_residual-in_err-refresh-in-Refresh.ensures.0
    c.from_residual-in_err-refresh-in-Refresh.ensures.1
