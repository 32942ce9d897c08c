use Rattle.std.proofs.Common.{◌∙◌, ap, ap₂, sym, subst, Err, Option, List}
use Rattle.std.specs.Prelude.{Result}
use Rattle.std.proofs.lemmas.Result.{err_from_is_err_and}
use Rattle.wap_base.specs.declared.fault.RunErr.{RunErr}
use Rattle.wap_tokens.specs.declared.markup.deck.Deck.{Deck}
use Rattle.wap_machine.specs.declared.machine.Outcome.{Outcome}
use Rattle.wap_world.specs.World.{World}
use Rattle.wap_world.specs.scripting.Waiting.{inside}
use Rattle.wap_context.specs.host.Stages.{Stage}
use Rattle.wap_state.specs.Scenes.{Line}
use Rattle.wap_context.specs.Browsers.{Browser}
use Rattle.wap_context.specs.inside.Starting.{RunsTo}
use Rattle.wap_context.proofs.Runs.{runs_ok, runs_err}
use Rattle.wap_context.proofs.Standing.{stands_by}
use Rattle.wap_context.proofs.context.Context.run.Goals as goal

-- a browser by its parts
abbrev browser_of : World → Option Deck → Browser
browser_of world deck = record { world = world; deck = deck }

-- what a run of it sees at first
abbrev stage_of : List Line → Browser → Stage
stage_of first b = record {
  world = inside b.world;
  deck = b.deck;
  lines = first;
  turns = b.world.turns;
}

pub new-host-requires : goal.new-host-requires
new-host-requires g c =
    stands_by c.self.inside.state c.replace-state.result c.self.inside.deck c.replace-deck.result
    c.replace-state.ensures.value c.replace-deck.ensures.value c.self.invariant

pub returns-in_err-outcome : goal.returns-in_err-outcome
returns-in_err-outcome g c =
    let left = err_from_is_err_and c.from_residual.result c.from_residual.ensures.1 in
    let new = browser_of c.replace-state.new.dest c.replace-deck.new.dest in
    subst (λ (r : Result (Outcome × List Line) RunErr).
    RunsTo c.args.machine c.args.first (g.P.Pages.seen c.args.pages.now)
    (g.P.Pages.seen c.run.new.pages) c.args.self.now new r) (sym (left.1 ∙ ap Err left.2))
    (runs_err c.args.machine c.args.first (g.P.Pages.seen c.args.pages.now)
    (g.P.Pages.seen c.run.new.pages) c.args.self.now new c.in_err-outcome.field-0.0
    c.new-host.result
    (c.new-host.ensures
    ∙ ap₂ (λ (w : World) (d : Option Deck). stage_of c.args.first (browser_of w d))
    c.replace-state.ensures.value c.replace-deck.ensures.value
    ∙ ap (stage_of c.args.first) c.self.view_is)
    c.in_err-outcome.ensures.kept (λ store. c.in_err-outcome.ensures.failed (ap Err store))
    (λ store. c.in_err-outcome.ensures.fetched (ap Err store)))

pub returns : goal.returns
returns g c =
    runs_ok c.args.machine c.args.first (g.P.Pages.seen c.args.pages.now)
    (g.P.Pages.seen c.run.new.pages) c.args.self.now
    (browser_of c.into_parts-state.result.0 c.into_parts-state.result.1) c.run.new.host
    c.in_ok-outcome.outcome c.into_parts-state.result.2 c.new-host.result
    (c.new-host.ensures
    ∙ ap₂ (λ (w : World) (d : Option Deck). stage_of c.args.first (browser_of w d))
    c.replace-state.ensures.value c.replace-deck.ensures.value
    ∙ ap (stage_of c.args.first) c.self.view_is)
    (ap₂ browser_of c.into_parts-state.ensures.state c.into_parts-state.ensures.deck)
    c.into_parts-state.ensures.lines c.in_ok-outcome.ensures.kept c.in_ok-outcome.ensures.steady
    c.in_ok-outcome.ensures.told c.in_ok-outcome.ensures.limits c.in_ok-outcome.ensures.turns
