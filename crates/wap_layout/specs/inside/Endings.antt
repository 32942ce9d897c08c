-- Which endings of a piece are hard breaks. This project's own.
use Rattle.std.specs.Prelude.{Bool, true, false}
use Rattle.wap_layout.specs.declared.flow.Ending.{Ending}
use Rattle.wap_layout.specs.declared.flow.Ending.TheVariants.{Hard, Soft}

abbrev pub is_hard : Ending → Bool
is_hard Hard = true
is_hard Soft = false
