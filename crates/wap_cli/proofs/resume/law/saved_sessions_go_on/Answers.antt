use Rattle.wap_cli.proofs.ResumeLemmas.Lasting.{goes_on}
use Rattle.wap_cli.proofs.resume.law.saved_sessions_go_on.Goals as goal

pub returns : goal.returns
returns c = goes_on
