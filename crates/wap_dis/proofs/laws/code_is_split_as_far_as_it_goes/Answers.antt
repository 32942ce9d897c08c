use Rattle.wap_dis.proofs.SplitLaws.{listed_split}
use Rattle.wap_dis.proofs.laws.code_is_split_as_far_as_it_goes.Goals as goal

pub returns : goal.returns
returns c = listed_split
