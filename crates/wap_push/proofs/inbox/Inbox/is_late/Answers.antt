use Rattle.std.proofs.Common.{◌≡◌, ◌∙◌, ap, sym, List, Option, Some, None}
use Rattle.std.specs.Prelude.{find}
use Rattle.wap_push.specs.declared.indication.Indication.{Indication}
use Rattle.wap_push.specs.Inbox.{is_of}
use Rattle.wap_push.specs.inside.Keyed.{loses}
use Rattle.wap_push.proofs.Keys.{found_by_id}
use Rattle.wap_push.proofs.inbox.Inbox.is_late.Goals as goal

pub returns-in-Some : goal.returns-in-Some
returns-in-Some c =
    let id = c.args.pushed.now.id in
    let found : find (is_of id) c.args.self.now ≡ Some c.in-Some.winner.now =
    ap (λ (all : List Indication). find (is_of id) all) (sym c.self.view_is)
    ∙ sym (found_by_id id c.self.inside.winners.entries c.self.invariant.keyed)
    ∙ sym c.in-Some.ensures.value in
    ap (λ (found : Option Indication). loses c.args.pushed.now found) (sym found)

pub returns-in-None : goal.returns-in-None
returns-in-None c =
    let id = c.args.pushed.now.id in
    let found : find (is_of id) c.args.self.now ≡ None =
    ap (λ (all : List Indication). find (is_of id) all) (sym c.self.view_is)
    ∙ sym (found_by_id id c.self.inside.winners.entries c.self.invariant.keyed)
    ∙ sym c.in-None.ensures.value in
    ap (λ (found : Option Indication). loses c.args.pushed.now found) (sym found)
