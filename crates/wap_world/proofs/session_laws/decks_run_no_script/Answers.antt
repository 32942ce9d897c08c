use Rattle.std.proofs.Common.{arith}
use Rattle.wap_world.proofs.session_laws.decks_run_no_script.Goals as goal

pub returns-clause-turns : goal.returns-clause-turns
returns-clause-turns c =
    λ pages name base referer index arguments turns step. omega arith

pub returns-clause-keys : goal.returns-clause-keys
returns-clause-keys c =
    λ pages name base referer index arguments turns step. omega arith

pub returns-clause-history : goal.returns-clause-history
returns-clause-history c =
    λ pages name base referer index arguments turns step bound. bound

pub returns-clause-card : goal.returns-clause-card
returns-clause-card c =
    λ pages shelf name base referer index arguments turns step stands. stands
