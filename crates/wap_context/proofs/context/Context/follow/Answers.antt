use Rattle.std.proofs.Common.{◌∙◌, ap, refl, Err}
use Rattle.std.proofs.lemmas.Result.{err_from_is_err_and}
use Rattle.wap_context.specs.inside.Moving.{pursued}
use Rattle.wap_context.proofs.Pursuing.{begins, goes_on, ends_settled, ends_asking, fails_by, falls}
use Rattle.wap_context.proofs.context.Context.follow.Goals as goal

pub loop-went-init : goal.loop-went-init
loop-went-init g c =
    begins c.args.first (g.P.Pages.seen c.args.pages.now) c.args.self.now c.args.lines c.args.lines
    refl

pub loop-went-preserved : goal.loop-went-preserved
loop-went-preserved g c =
    goes_on (pursued c.args.first) (g.P.Pages.seen c.args.pages.now)
    (g.P.Pages.seen c.loop-went.pages) (g.P.Pages.seen c.task_once.new.pages) c.args.self.now
    c.loop-went.self c.task_once.new.self c.args.lines c.loop-went.shown c.task_once.new.lines
    c.loop-went.went c.in-Leads.task c.in-Leads.from c.in_ok-went-in-Leads.went c.in-Leads.is
    c.loop-went.invariant c.in_ok-went-in-Leads.ensures.takes

pub loop-went-smaller : goal.loop-went-smaller
loop-went-smaller g c =
    falls c.loop-went.self c.task_once.new.self c.loop-went.went c.in-Leads.task c.in-Leads.from
    c.in_ok-went-in-Leads.went c.in-Leads.is c.in_ok-went-in-Leads.ensures.spends

pub returns-in-Settled : goal.returns-in-Settled
returns-in-Settled g c =
    ends_settled (pursued c.args.first) (g.P.Pages.seen c.args.pages.now)
    (g.P.Pages.seen c.loop-went.pages) c.args.self.now c.loop-went.self c.args.lines
    c.loop-went.shown c.loop-went.went c.in-Settled.is c.loop-went.invariant

pub returns-in-Asks : goal.returns-in-Asks
returns-in-Asks g c =
    ends_asking (pursued c.args.first) (g.P.Pages.seen c.args.pages.now)
    (g.P.Pages.seen c.loop-went.pages) c.args.self.now c.loop-went.self c.args.lines
    c.loop-went.shown c.loop-went.went c.in-Asks.dialog c.in-Asks.waiting c.in-Asks.is
    c.loop-went.invariant

pub returns-in_err-went-in-Leads : goal.returns-in_err-went-in-Leads
returns-in_err-went-in-Leads g c =
    let left = err_from_is_err_and c.from_residual.result c.from_residual.ensures.1 in
    fails_by (pursued c.args.first) (g.P.Pages.seen c.args.pages.now)
    (g.P.Pages.seen c.loop-went.pages) (g.P.Pages.seen c.task_once.new.pages) c.args.self.now
    c.loop-went.self c.task_once.new.self c.args.lines c.loop-went.shown c.task_once.new.lines
    c.loop-went.went c.in-Leads.task c.in-Leads.from c.in_err-went-in-Leads.field-0.0
    c.from_residual.result (left.1 ∙ ap Err left.2) c.in-Leads.is c.loop-went.invariant
    c.in_err-went-in-Leads.ensures.takes
