-- What a call that changes variables and the timer alone comes to: a scene, whose lines are added.
-- This project's own.
use Rattle.std.specs.Prelude.{◌≡◌, ℕ, List, ◌++◌}
use Rattle.wap_url.specs.Segments.{IsPrefix}
use Rattle.wap_world.specs.World.{World}
use Rattle.wap_world.specs.Steps.{Scene}

abbrev pub Line : Type 0
Line = List ℕ

-- a world after a scene, and the lines so far; only variables and timer are others
pub record Plays (scene : Scene) (old new : World) (before after : List Line) : Type 0 where
  pub world : new ≡ scene.world
  pub lines : after ≡ before ++ scene.lines
  pub kept : new ≡ record old { vars = new.vars; timer = new.timer }

-- what such a call leaves where memory runs out: only variables and timer are others, and the lines
-- begin with those that were there
pub record Leaves (old new : World) (before after : List Line) : Type 0 where
  pub kept : new ≡ record old { vars = new.vars; timer = new.timer }
  pub lines : IsPrefix before after
