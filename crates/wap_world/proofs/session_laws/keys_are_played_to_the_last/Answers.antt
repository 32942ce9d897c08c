use Rattle.wap_world.proofs.InboxesLemmas.Counting.{plays_none, plays_first, plays_all}
use Rattle.wap_world.proofs.InboxesLemmas.Playing.{left_with}
use Rattle.wap_world.proofs.session_laws.keys_are_played_to_the_last.Goals as goal

pub returns-clause-none : goal.returns-clause-none
returns-clause-none c = plays_none

pub returns-clause-first : goal.returns-clause-first
returns-clause-first c = λ read site one keys phone falls.
    plays_first read site falls one keys phone

pub returns-clause-left : goal.returns-clause-left
returns-clause-left c = left_with

pub returns-clause-all : goal.returns-clause-all
returns-clause-all c = λ read site keys phone falls. plays_all read site falls keys phone
