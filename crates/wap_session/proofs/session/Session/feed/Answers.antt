use Rattle.std.proofs.Common.{[], ◌∷◌, Err, sym, ap, ◌∙◌}
use Rattle.std.proofs.lemmas.Result.{err_from_is_err_and}
use Rattle.wap_world.specs.scripting.UnitSites.{unit_pages}
use Rattle.wap_session.specs.inside.Turns.{state_of}
use Rattle.wap_session.proofs.Playing.{over_plays, tells_on}
use Rattle.wap_session.proofs.Turning.{in_session, taken_in, played_ok, turns_by, missed_at}
use Rattle.wap_session.proofs.session.Session.feed.Goals as goal

pub returns-in_err-did-clause-missed : goal.returns-in_err-did-clause-missed
returns-in_err-did-clause-missed g c is =
    let p = err_from_is_err_and c.from_residual.result c.from_residual.ensures.1 in
    missed_at c.args.key.now c.args.self.now c.in_err-did.field-0.0
    (in_session c.args.key.now c.self.inside.context c.self.inside.inbox
    c.replace-standing.ensures.value c.self.view_is c.in_err-did.ensures.acts)
    (sym (p.1 ∙ ap Err p.2) ∙ is)

pub returns-clause-plays : goal.returns-clause-plays
returns-clause-plays g c =
    let stands = c.in_ok-lines.ensures.standing in
    let was = c.replace-standing.ensures.value in
    played_ok c.args.key.now c.args.self.now
    (state_of c.turn.new.context c.in_ok-lines.standing c.turn.new.inbox) c.in_ok-did.did
    stands.waiting_is c.in_ok-lines.lines c.in_ok-lines.ensures.lines stands.ready
    (sym c.is_over.ensures.over ∙ c.if-is_over.false)
    (taken_in c.args.key.now c.self.inside.context c.self.inside.inbox was c.self.view_is
    c.in_ok-did.ensures.taken)
    (in_session c.args.key.now c.self.inside.context c.self.inside.inbox was c.self.view_is
    c.in_ok-did.ensures.acts)

pub returns-clause-shown : goal.returns-clause-shown
returns-clause-shown g c = λ judged may over.
    tells_on ((returns-clause-plays g c).leads judged may over)

pub returns-clause-turns : goal.returns-clause-turns
returns-clause-turns g c = λ judged may over.
    turns_by c.args.key.now c.args.self.now
    (state_of c.turn.new.context c.in_ok-lines.standing c.turn.new.inbox) c.in_ok-did.did
    c.in_ok-lines.ensures.standing.waiting_is (unit_pages judged)
    ((in_session c.args.key.now c.self.inside.context c.self.inside.inbox
    c.replace-standing.ensures.value c.self.view_is c.in_ok-did.ensures.acts).follows judged may
    over)

pub returns-then-is_over-clause-plays : goal.returns-then-is_over-clause-plays
returns-then-is_over-clause-plays g c =
    over_plays (c.args.key.now ∷ []) (g.P.Pages.seen c.args.pages.now) c.args.self.now
    (sym c.is_over.ensures.over ∙ c.if-is_over.true)
