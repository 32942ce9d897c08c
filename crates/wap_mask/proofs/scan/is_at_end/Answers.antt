use Rattle.std.proofs.Common.{◌∙◌}
use Rattle.wap_mask.proofs.Ends.{is_empty-chars}
use Rattle.wap_mask.proofs.scan.is_at_end.Goals as goal

pub returns : goal.returns
returns c = c.is_empty.ensures ∙ is_empty-chars c.args.text.now c.utf8.text
