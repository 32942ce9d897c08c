use Rattle.wap_keys.proofs.ListLaws.{one_list_of}
use Rattle.wap_keys.proofs.lists.laws.sources_without_dividers_are_one_list.Goals as goal

pub returns : goal.returns
returns c = one_list_of
