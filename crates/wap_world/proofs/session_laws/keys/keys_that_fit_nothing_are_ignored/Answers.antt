use Rattle.wap_world.proofs.SessionLawsLemmas.Ignored.{ignores_do, ignores_pick, ignores_type}
use Rattle.wap_world.proofs.SessionLawsLemmas.Ignored.{ignores_option, ignores_tick}
use Rattle.wap_world.proofs.SessionLawsLemmas.Ignored.{ignores_dialog_keys, ignores_inbox_keys}
use Rattle.wap_world.proofs.SessionLawsLemmas.Ignored.{ignores_without_card}
use Rattle.wap_world.proofs.session_laws.keys.keys_that_fit_nothing_are_ignored.Goals as goal

pub returns-clause-of_do : goal.returns-clause-of_do
returns-clause-of_do c = ignores_do

pub returns-clause-of_link : goal.returns-clause-of_link
returns-clause-of_link c = ignores_pick

pub returns-clause-of_input : goal.returns-clause-of_input
returns-clause-of_input c = ignores_type

pub returns-clause-of_option : goal.returns-clause-of_option
returns-clause-of_option c = ignores_option

pub returns-clause-of_timer : goal.returns-clause-of_timer
returns-clause-of_timer c = ignores_tick

pub returns-clause-of_dialog : goal.returns-clause-of_dialog
returns-clause-of_dialog c = λ site keys world text.
    let dialog = ignores_dialog_keys site keys world in
    (dialog.ok, dialog.cancel, dialog.answer text, dialog.stop)

pub returns-clause-of_inbox : goal.returns-clause-of_inbox
returns-clause-of_inbox c = λ site keys world bytes n.
    let inbox = ignores_inbox_keys site keys world in
    (inbox.push bytes, inbox.inbox, inbox.follow n)

pub returns-clause-without_card : goal.returns-clause-without_card
returns-clause-without_card c = ignores_without_card
