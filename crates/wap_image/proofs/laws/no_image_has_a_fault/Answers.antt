use Rattle.std.proofs.Common.{sym, ◌∙◌}
use Rattle.wap_image.proofs.ImageLaws.{image_again, image_fails}
use Rattle.wap_image.proofs.laws.no_image_has_a_fault.Goals as goal

pub returns : goal.returns
returns c =
    λ bytes saved fault is refused.
    cc (sym (image_again bytes saved is) ∙ image_fails bytes fault refused)
