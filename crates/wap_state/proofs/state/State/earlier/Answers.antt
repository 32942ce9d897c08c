use Rattle.std.proofs.Common.{◌≡◌, ◌∙◌, ◌≤◌, ◌-◌, ℕ, sym, ap, Some, List, length, arith}
use Rattle.std.specs.List.{slice_get}
use Rattle.std.specs.Option.{option_copied}
use Rattle.wap_world.specs.declared.history.Entry.{Entry}
use Rattle.wap_world.specs.History.{earlier_entry}
use Rattle.wap_state.proofs.Lasts.{earlier_at}
use Rattle.wap_state.proofs.state.State.earlier.Goals as goal

pub returns-in_ok-copy-in-Some : goal.returns-in_ok-copy-in-Some
returns-in_ok-copy-in-Some c =
    let history : List Entry = c.self.inside.history in
    let count : c.len-count.result ≡ length history = c.len-count.ensures in
    let some : 2 ≤ length history = omega arith in
    ap Some c.in_ok-copy-in-Some.ensures
    ∙ sym (ap option_copied c.in-Some.is)
    ∙ c.get.ensures
    ∙ ap (λ (n : ℕ). slice_get history (n - 2)) count
    ∙ sym (earlier_at history some)
    ∙ ap earlier_entry c.self.view_is

pub returns-in-None : goal.returns-in-None
returns-in-None c =
    let history : List Entry = c.self.inside.history in
    let count : c.len-count.result ≡ length history = c.len-count.ensures in
    let some : 2 ≤ length history = omega arith in
    sym (ap option_copied c.in-None.is)
    ∙ c.get.ensures
    ∙ ap (λ (n : ℕ). slice_get history (n - 2)) count
    ∙ sym (earlier_at history some)
    ∙ ap earlier_entry c.self.view_is
