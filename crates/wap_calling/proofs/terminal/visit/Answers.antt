-- A session in which nothing was done stands over any pages.
use Rattle.std.proofs.Common.{refl, subst, Ok, Err}
use Rattle.std.specs.Prelude.{Result, IfOk, OnOk}
use Rattle.std.proofs.lemmas.Result.{IfOk-weaker}
use Rattle.wap_context.specs.Sites.{IfOver}
use Rattle.wap_session.specs.Feeding.{State, Leads}
use Rattle.wap_calling.proofs.terminal.visit.Goals as goal

-- what holds of any answer holds where there is one
on_ok : {X E : Type 0} (P : Type 0) (result : Result X E) → IfOk result (λ answer. P)
    → OnOk result P
on_ok P (Ok answer) so = so
on_ok P (Err fault) so = tt

pub returns-clause-shown : goal.returns-clause-shown
returns-clause-shown g c =
    let keys = c.args.keys.now in
    IfOk-weaker c.play.result _ _
    (λ lines leads judged may.
    (subst (λ (state : State). IfOver (g.P.Pages.seen c.play.new.pages) state.browser
    (λ pages. Leads keys pages state c.play.new.self lines)) c.requires.new leads judged may
    refl).tells)
    c.play.ensures.plays.leads

pub returns-clause-waits : goal.returns-clause-waits
returns-clause-waits g c =
    let keys = c.args.keys.now in
    on_ok _ c.play.result (IfOk-weaker c.play.result _ _
    (λ lines leads judged may.
    (subst (λ (state : State). IfOver (g.P.Pages.seen c.play.new.pages) state.browser
    (λ pages. Leads keys pages state c.play.new.self lines)) c.requires.new leads judged may
    refl).asks_user) c.play.ensures.plays.leads)
