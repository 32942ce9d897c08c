use Rattle.wap_image.proofs.ImageLaws.{read_or_refused}
use Rattle.wap_image.proofs.laws.what_is_no_image_has_a_fault.Goals as goal

pub returns : goal.returns
returns c = read_or_refused
