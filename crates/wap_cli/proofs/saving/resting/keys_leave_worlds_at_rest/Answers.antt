use Rattle.wap_cli.proofs.SavingLemmas.AtRest.{played_rests, first_rests}
use Rattle.wap_cli.proofs.saving.resting.keys_leave_worlds_at_rest.Goals as goal

pub returns-clause-first : goal.returns-clause-first
returns-clause-first c = first_rests

pub returns-clause-kept : goal.returns-clause-kept
returns-clause-kept c = played_rests
