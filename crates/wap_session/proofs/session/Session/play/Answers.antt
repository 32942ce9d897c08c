use Rattle.std.proofs.Common.{ap, sym, subst, ◌∙◌, ◌+◌, drop, List, Ok, Err}
use Rattle.std.proofs.lemmas.Result.{err_from_is_err_and}
use Rattle.std.proofs.lemmas.List.{take_all}
use Rattle.wap_base.specs.declared.key.Key.{Key}
use Rattle.wap_context.specs.Sites.{IfOver}
use Rattle.wap_session.specs.Feeding.{Plays, MissedAt}
use Rattle.wap_session.proofs.Playing.{plays_none, over_plays, plays_more, then_fails, then_wants}
use Rattle.wap_session.proofs.Playing.{missed_more, tells_on, around, one_more}
use Rattle.wap_session.proofs.session.Session.play.Goals as goal

pub loop-key-init : goal.loop-key-init
loop-key-init g c =
    rw c.new-lines.ensures (plays_none (g.P.Pages.seen c.args.pages.now) c.args.self.now
    (sym c.is_over.ensures.over ∙ c.if-is_over.false) c.is_over.ensures.own)

pub returns-in_err-more-clause-plays : goal.returns-in_err-more-clause-plays
returns-in_err-more-clause-plays g c =
    let p = err_from_is_err_and c.from_residual.result c.from_residual.ensures.1 in
    rw (p.1, p.2) (then_fails c.loop-key.invariant c.in_err-more.ensures.plays)

pub returns-in_err-more-clause-missed : goal.returns-in_err-more-clause-missed
returns-in_err-more-clause-missed g c is =
    let keys = c.args.keys.now in
    let i = c.loop-key.key-index in
    let one = c.key-item.result in
    let old = c.args.self.now in
    let before = g.P.Pages.seen c.args.pages.now in
    let after = g.P.Pages.seen c.feed.new.pages in
    let p = err_from_is_err_and c.from_residual.result c.from_residual.ensures.1 in
    subst (λ (all : List Key). IfOver after old.browser
    (λ pages. MissedAt all pages old before after))
    (around keys i one c.loop-key-test.true c.key-item.is)
    (missed_more c.loop-key.invariant one (drop (i + 1) keys) c.in_err-more.ensures.plays.stays
    (c.in_err-more.ensures.missed (sym (p.1 ∙ ap Err p.2) ∙ is)))

pub returns-in_err-keep_lines-clause-plays : goal.returns-in_err-keep_lines-clause-plays
returns-in_err-keep_lines-clause-plays g c =
    let p = err_from_is_err_and c.from_residual-in_err-keep_lines.result
    c.from_residual-in_err-keep_lines.ensures.1 in
    rw (p.1, p.2, c.in_err-keep_lines.ensures.wanting)
    (then_wants c.loop-key.invariant c.in_ok-more.ensures.plays c.in_err-keep_lines.ensures.over)

pub loop-key-preserved : goal.loop-key-preserved
loop-key-preserved g c =
    let on = one_more c.args.keys.now c.loop-key.key-index c.key-item.result c.loop-key-test.true
    c.key-item.is in
    rw (on, c.in_ok-keep_lines.ensures.kept, c.in_ok-keep_lines.ensures.same)
    (plays_more c.loop-key.invariant c.in_ok-more.ensures.plays)

pub returns-clause-plays : goal.returns-clause-plays
returns-clause-plays g c =
    subst (λ (all : List Key). Plays all (g.P.Pages.seen c.args.pages.now)
    (g.P.Pages.seen c.loop-key.pages) c.args.self.now c.loop-key.self (Ok c.loop-key.lines))
    (take_all c.loop-key.key-index c.args.keys.now c.loop-key-test.false) c.loop-key.invariant

pub returns-clause-shown : goal.returns-clause-shown
returns-clause-shown g c = λ judged may over.
    tells_on ((returns-clause-plays g c).leads judged may over)

pub returns-then-is_over-clause-plays : goal.returns-then-is_over-clause-plays
returns-then-is_over-clause-plays g c =
    over_plays c.args.keys.now (g.P.Pages.seen c.args.pages.now) c.args.self.now
    (sym c.is_over.ensures.over ∙ c.if-is_over.true)
