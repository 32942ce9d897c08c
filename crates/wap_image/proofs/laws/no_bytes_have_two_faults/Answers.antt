use Rattle.std.proofs.Common.{sym, ◌∙◌}
use Rattle.wap_base.proofs.Choices.{err_same}
use Rattle.wap_image.specs.Images.{Saved}
use Rattle.wap_image.proofs.ImageLaws.{image_fails}
use Rattle.wap_image.proofs.laws.no_bytes_have_two_faults.Goals as goal

pub returns : goal.returns
returns c =
    λ bytes one two first second.
    err_same {A = Saved} one two (sym (image_fails bytes one first) ∙ image_fails bytes two second)
