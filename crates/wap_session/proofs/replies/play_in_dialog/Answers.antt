use Rattle.std.proofs.Common.{sym, ap, ◌∙◌}
use Rattle.wap_world.proofs.SiteLemmas.Asking.{Stays-same}
use Rattle.wap_context.specs.Acting.{answer, stop}
use Rattle.wap_context.specs.Pausing.{waits_of}
use Rattle.wap_session.specs.inside.Turns.{meant, resumed_rule}
use Rattle.wap_session.proofs.Rules.{Acts-same, Acts-wants}
use Rattle.wap_session.proofs.Replying.{answers_so, ends_so, passes_act}
use Rattle.wap_session.proofs.replies.play_in_dialog.Goals as goal

pub returns-in_err-value : goal.returns-in_err-value
returns-in_err-value g c =
    let seen = g.P.Pages.seen c.args.pages.now in
    Acts-wants (resumed_rule (waits_of c.args.dialog c.args.waiting) c.args.key.now) seen seen
    c.args.context.now c.args.context.now c.from_residual.result (Stays-same seen)
    c.from_residual.ensures.1

pub returns-in_err-meanwhile-in-Passes : goal.returns-in_err-meanwhile-in-Passes
returns-in_err-meanwhile-in-Passes g c =
    let seen = g.P.Pages.seen c.args.pages.now in
    Acts-wants (resumed_rule (waits_of c.args.dialog c.args.waiting) c.args.key.now) seen seen
    c.args.context.now c.meanwhile.new.context c.from_residual-in_err-meanwhile-in-Passes.result
    (Stays-same seen) c.from_residual-in_err-meanwhile-in-Passes.ensures.1

pub returns-in-Answers : goal.returns-in-Answers
returns-in-Answers g c =
    let old = c.args.context.now in
    Acts-same (answer c.args.waiting c.in-Answers.value)
    (resumed_rule (waits_of c.args.dialog c.args.waiting) c.args.key.now)
    (g.P.Pages.seen c.args.pages.now) (g.P.Pages.seen c.answer.new.pages) old c.answer.new.self
    (λ pages is keys. answers_so c.args.dialog c.args.waiting c.args.key.now c.in-Answers.value
    (sym c.in_ok-value.ensures ∙ ap meant c.in-Answers.is) pages keys old.world)
    c.answer.result c.answer.ensures

pub returns-in-Ends : goal.returns-in-Ends
returns-in-Ends g c =
    let old = c.args.context.now in
    Acts-same (stop c.args.waiting)
    (resumed_rule (waits_of c.args.dialog c.args.waiting) c.args.key.now)
    (g.P.Pages.seen c.args.pages.now) (g.P.Pages.seen c.stop.new.pages) old c.stop.new.self
    (λ pages is keys. ends_so c.args.dialog c.args.waiting c.args.key.now
    (sym c.in_ok-value.ensures ∙ ap meant c.in-Ends.is) pages keys old.world)
    c.stop.result c.stop.ensures

pub returns-in_ok-meanwhile-in-Passes : goal.returns-in_ok-meanwhile-in-Passes
returns-in_ok-meanwhile-in-Passes g c =
    passes_act c.args.dialog c.args.waiting c.args.key.now (g.P.Pages.seen c.args.pages.now)
    c.args.context.now c.meanwhile.new.context c.in_ok-meanwhile-in-Passes.field-0
    (sym c.in_ok-value.ensures ∙ ap meant c.in-Passes.is) c.in_ok-meanwhile-in-Passes.ensures
