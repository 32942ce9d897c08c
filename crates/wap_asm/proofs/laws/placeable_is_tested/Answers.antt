use Rattle.wap_asm.proofs.CheckingLaws.{placeable_from}
use Rattle.wap_asm.proofs.laws.placeable_is_tested.Goals as goal

pub returns : goal.returns
returns c = placeable_from
