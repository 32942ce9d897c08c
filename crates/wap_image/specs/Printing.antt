-- How faults of images are printed. This project's own.
use Rattle.std.specs.Prelude.{ℕ, List, [], ◌∷◌, codes}
use Rattle.wap_devices.specs.Printing.{fault_text}
use Rattle.wap_image.specs.declared.context_parts.fault.ImageFault.{ImageFault}
use Rattle.wap_image.specs.declared.context_parts.fault.ImageFault.TheVariants as image
use Rattle.wap_image.specs.declared.context_parts.fault.SaveFault.{SaveFault}
use Rattle.wap_image.specs.declared.context_parts.fault.SaveFault.TheVariants as save

-- why bytes are no image
abbrev pub image_text : ImageFault → List ℕ
image_text image.Head = fault_text (codes "Head") []
image_text (image.Short at) = fault_text (codes "Short") (at ∷ [])
image_text (image.Number at) = fault_text (codes "Number") (at ∷ [])
image_text (image.Text at) = fault_text (codes "Text") (at ∷ [])
image_text (image.Name at) = fault_text (codes "Name") (at ∷ [])
image_text (image.Range at) = fault_text (codes "Range") (at ∷ [])
image_text (image.Url at) = fault_text (codes "Url") (at ∷ [])
image_text (image.Rest at) = fault_text (codes "Rest") (at ∷ [])
image_text image.NoMemory = fault_text (codes "NoMemory") []

-- why a context has no image
abbrev pub save_text : SaveFault → List ℕ
save_text save.Drawn = fault_text (codes "Drawn") []
save_text save.Card = fault_text (codes "Card") []
save_text save.NoMemory = fault_text (codes "NoMemory") []
