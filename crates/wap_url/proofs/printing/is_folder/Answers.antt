use Rattle.wap_url.proofs.PrintLaws.{ends-last}
use Rattle.wap_url.proofs.printing.is_folder.Goals as goal

pub returns-in-len1-up : goal.returns-in-len1-up
returns-in-len1-up c = ends-last c.args.path.now c.in-len1-up.len_at_least
