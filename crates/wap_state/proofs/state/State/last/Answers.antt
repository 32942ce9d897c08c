use Rattle.std.proofs.Common.{◌∙◌, ◌-◌, ℕ, List, sym, ap}
use Rattle.std.specs.List.{slice_get}
use Rattle.wap_world.specs.declared.history.Entry.{Entry}
use Rattle.wap_world.specs.World.{last_entry}
use Rattle.wap_state.proofs.Lasts.{last_at}
use Rattle.wap_state.proofs.state.State.last.Goals as goal

pub returns : goal.returns
returns c =
    let history : List Entry = c.self.inside.history in
    c.get.ensures
    ∙ ap (slice_get history) (c.saturating_sub.ensures ∙ ap (λ (n : ℕ). n - 1) c.len.ensures)
    ∙ sym (last_at history)
    ∙ ap last_entry c.self.view_is
