use Rattle.std.proofs.Common.{◌≡◌, drop}
use Rattle.wap_world.specs.scripting.Units.{path_in}
use Rattle.wap_context.proofs.host.units.path_in.Given as goal

-- what is left has what all have
abbrev pub invariant-loop-pragma : goal.invariant-loop-pragma
invariant-loop-pragma l = path_in (drop l.pragma-index l.pragmas) ≡ path_in l.pragmas
