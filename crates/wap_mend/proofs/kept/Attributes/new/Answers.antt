use Rattle.wap_mend.proofs.Suiting.{none_kept}
use Rattle.wap_mend.proofs.kept.Attributes.new.Goals as goal

pub invariant_of-result : goal.invariant_of-result
invariant_of-result c = none_kept c.args.tag c.new.result c.new.ensures
