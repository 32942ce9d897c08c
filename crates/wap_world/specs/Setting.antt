-- Setting the variables of a world (WAP-191, sections 9.4 and 10.3.4). The lines of refusals are
-- this project's own.
use Rattle.std.specs.Prelude.{ℕ, List, [], ◌∷◌}
use Rattle.std.specs.List.{flat_map}
use Rattle.wap_vars.specs.declared.fault.VarFault.{VarFault}
use Rattle.wap_vars.specs.declared.fault.VarFault.TheVariants.{TooLong, Full}
use Rattle.wap_cardrules.specs.Values.{Pairs}
use Rattle.wap_cardrules.specs.Setting.{Set, set_all}
use Rattle.wap_world.specs.declared.refusal.Refusal.TheVariants as refusals
use Rattle.wap_world.specs.World.{World}
use Rattle.wap_world.specs.Lines.{refusal_line}
use Rattle.wap_world.specs.Steps.{Scene}

-- a name that is none of a variable is passed over
abbrev pub fault_lines : VarFault → List (List ℕ)
fault_lines (TooLong bytes) = refusal_line refusals.Long ∷ []
fault_lines Full = refusal_line refusals.Full ∷ []
fault_lines other = []

-- the variables after some sets, and a line for each that was refused
abbrev pub with_set : World → Set → Scene
with_set world set = record {
  world = record world { vars = set.vars };
  lines = flat_map fault_lines set.refused;
}

-- a task's setvars, which are filled already, one after the other
abbrev pub set_variables : Pairs → World → Scene
set_variables pairs world = with_set world (set_all world.vars pairs)
