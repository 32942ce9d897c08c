use Rattle.std.proofs.Common.{sym, ◌∙◌}
use Rattle.wap_base.proofs.Choices.{ok_same}
use Rattle.wap_image.proofs.ImageLaws.{image_again}
use Rattle.wap_image.proofs.laws.no_bytes_have_two_images.Goals as goal

pub returns : goal.returns
returns c =
    λ bytes one two first second.
    ok_same one two (sym (image_again bytes one first) ∙ image_again bytes two second)
