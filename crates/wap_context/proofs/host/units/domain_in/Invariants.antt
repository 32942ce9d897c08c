use Rattle.std.proofs.Common.{◌≡◌, drop}
use Rattle.wap_world.specs.scripting.Units.{domain_in}
use Rattle.wap_context.proofs.host.units.domain_in.Given as goal

-- what is left has what all have
abbrev pub invariant-loop-pragma : goal.invariant-loop-pragma
invariant-loop-pragma l = domain_in (drop l.pragma-index l.pragmas) ≡ domain_in l.pragmas
