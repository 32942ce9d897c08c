-- Scenes, one after another, as calls play them.
use Rattle.std.proofs.Common.{◌≡◌, List, ◌++◌, refl, sym, ap, ap₂, ◌∙◌, append-nil, append_assoc}
use Rattle.wap_tokens.specs.declared.markup.deck.Node.{Node}
use Rattle.wap_world.specs.declared.timer.Timer.{Timer}
use Rattle.wap_world.specs.declared.timer.Timer.TheVariants.{NotStarted}
use Rattle.wap_world.specs.World.{World, Place}
use Rattle.wap_world.specs.Steps.{Scene, still, and_then}
use Rattle.wap_world.specs.Timers.{timer_started}
use Rattle.wap_world.specs.Screens.{screen, screen_lines}
use Rattle.wap_state.specs.Scenes.{Line, Plays}

-- nothing happens
pub plays_still : (world : World) (lines : List Line) → Plays (still world) world world lines lines
plays_still world lines = record { world = refl; lines = sym (append-nil lines); kept = refl }

-- one scene, and then another
pub plays_then : (first : Scene) (next : World → Scene) (a b c : World)
    (before mid after : List Line)
    → Plays first a b before mid → Plays (next b) b c mid after
    → Plays (and_then first next) a c before after
plays_then first next a b c before mid after one two = record {
  world = two.world ∙ ap (λ (w : World). (next w).world) one.world;
  lines = two.lines
      ∙ ap₂ (λ (l m : List Line). l ++ m) one.lines (ap (λ (w : World). (next w).lines) one.world)
      ∙ append_assoc before first.lines (next first.world).lines;
  kept = two.kept ∙ ap (λ (w : World). record w { vars = c.vars; timer = c.timer }) one.kept;
}

-- a timer that starts, unless it has, changes nothing else
started_alone : (timer : Timer) (card : Node) (w : World)
    → let v = timer_started timer card w in v ≡ record w { vars = v.vars; timer = v.timer }
started_alone NotStarted card w = refl
started_alone timer card w = refl

-- the timer starts, and then the screen is drawn
pub plays_started : (place : Place) (old new : World) (before after : List Line)
    → new ≡ timer_started old.timer place.card old
    → Plays (screen_lines place new) new new before after
    → Plays (screen_lines place (timer_started old.timer place.card old)) old new before after
plays_started place old new before after is drawn = record {
  world = is;
  lines = drawn.lines
      ∙ ap (λ (w : World). before ++ screen w.vars place.deck place.card) is;
  kept = is ∙ started_alone old.timer place.card old
      ∙ sym (ap (λ (w : World). record old { vars = w.vars; timer = w.timer }) is);
}
