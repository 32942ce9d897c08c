-- The image that is saved of a context, or why none is. This project's own.
use Rattle.std.specs.Prelude.{ℕ, if◌then◌else◌, List, Result, Ok, Err}
use Rattle.wap_image.specs.declared.context_parts.parts.ContextParts.{ContextParts}
use Rattle.wap_image.specs.declared.context_parts.fault.SaveFault.{SaveFault}
use Rattle.wap_image.specs.declared.context_parts.fault.SaveFault.TheVariants.{Drawn, Card}
use Rattle.wap_image.specs.Items.{is_drawn}
use Rattle.wap_image.specs.Rules.{are_short}
use Rattle.wap_image.specs.Spelling.{spelling}

-- the one spelling of the parts and the turns, or the first cause that there is none
abbrev pub image_of : ContextParts → ℕ → Result (List ℕ) SaveFault
image_of parts budget =
    if is_drawn parts.drawn then (if are_short parts then Ok (spelling parts budget) else Err Card)
    else Err Drawn
