use Rattle.std.proofs.Common.{ap, subst, ◌∙◌}
use Rattle.std.proofs.lemmas.Result.{on_ok_weaker}
use Rattle.wap_world.specs.World.{World}
use Rattle.wap_cards.specs.inputs.Stopped.{DefaultsStand}
use Rattle.wap_base.proofs.Choices.{on_err}
use Rattle.wap_world.specs.Timers.{timer_started}
use Rattle.wap_world.specs.Screens.{screen_lines, apply_defaults}
use Rattle.wap_tokens.specs.declared.markup.deck.Node.{Node}
use Rattle.wap_cardrules.specs.Setting.{defaults}
use Rattle.wap_world.specs.Setting.{with_set}
use Rattle.wap_state.specs.Scenes.{Plays}
use Rattle.wap_state.specs.CardAtHand.{Held, placed}
use Rattle.wap_state.proofs.Scenes.{plays_then, plays_started}
use Rattle.wap_state.proofs.Stopping.{defaults_stand, started_vars}
use Rattle.wap_state.proofs.state.State.show.Goals as goal

pub returns-in_err-start-clause-stopped : goal.returns-in_err-start-clause-stopped
returns-in_err-start-clause-stopped c =
    let card = c.here.inside.card in
    let vars = c.args.self.now.vars in
    let now = c.start.new.self.vars in
    on_err c.from_residual-in_err-start.result (DefaultsStand vars c.args.here.now.card now)
    (subst (λ (held : Held). DefaultsStand vars held.card now) c.here.view_is
    (defaults_stand vars now card
    (ap (λ (world : World). world.vars) c.in_err-start.ensures.kept
    ∙ ap (λ (world : World). world.vars) c.in_ok-apply_defaults.ensures.plays.world)))

pub returns-clause-stopped : goal.returns-clause-stopped
returns-clause-stopped c =
    let card = c.here.inside.card in
    let vars = c.args.self.now.vars in
    let now = c.start.new.self.vars in
    on_err c.add_screen.result (DefaultsStand vars c.args.here.now.card now)
    (subst (λ (held : Held). DefaultsStand vars held.card now) c.here.view_is
    (defaults_stand vars now card
    (ap (λ (world : World). world.vars) c.in_ok-start.ensures.starts
    ∙ started_vars c.apply_defaults.new.self.timer card c.apply_defaults.new.self
    ∙ ap (λ (world : World). world.vars) c.in_ok-apply_defaults.ensures.plays.world)))

pub returns-clause-plays : goal.returns-clause-plays
returns-clause-plays c =
    λ url.
    let place = placed url c.args.here.now in
    let old = c.args.self.now in
    let mid = c.apply_defaults.new.self in
    let card = ap (λ (held : Held). held.card) c.here.view_is in
    on_ok_weaker c.add_screen.result
    (λ drawn. plays_then (apply_defaults place old)
    (λ w. screen_lines place (timer_started w.timer place.card w)) old mid c.start.new.self
    c.args.lines.now c.apply_defaults.new.lines c.add_screen.new.lines
    (subst (λ (n : Node). Plays (with_set old (defaults old.vars n)) old mid c.args.lines.now
    c.apply_defaults.new.lines) card c.in_ok-apply_defaults.ensures.plays)
    (plays_started place mid c.start.new.self c.apply_defaults.new.lines c.add_screen.new.lines
    (c.in_ok-start.ensures.starts ∙ ap (λ (n : Node). timer_started mid.timer n mid) card) drawn))
    (c.add_screen.ensures.plays url)
