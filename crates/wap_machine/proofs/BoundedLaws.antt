-- A run that came to its end did few instructions.
use Rattle.std.proofs.Common.{◌≡◌, ℕ, ◌-◌, ◌≤◌, [], length, ap, sym, subst, ◌∙◌}
use Rattle.wap_execution.specs.Outcomes.{Ended, Hosting}
use Rattle.wap_execution.specs.laws.Settings.{Counted}
use Rattle.wap_execution.specs.laws.Bounds.{started, most_instructions}
use Rattle.wap_execution.proofs.LawsLemmas.BoundLaws.{bounded}
use Rattle.wap_execution.proofs.LawsLemmas.CountLaws.{agrees}
use Rattle.wap_machine.specs.declared.machine.Outcome.{Outcome}
use Rattle.wap_machine.specs.Stacks.{Stack}
use Rattle.wap_machine.specs.Runs.{run_of, IsEnd, counted_run_of, IsBounded}

pub told_bounded : {S : Type 0} (meaning : Hosting S) (machine : Stack) (turns : ℕ)
    (state : S) (outcome : Outcome) (left : ℕ) (later : S)
    → IsEnd (run_of machine meaning turns state) outcome left later
    → IsBounded machine meaning turns left state
told_bounded {S} meaning machine turns state outcome left later told =
    let end : Ended (Counted S) = counted_run_of machine meaning turns state in
    let same : end.turns ≡ left =
    ap (λ (e : Ended S). e.turns) ((agrees machine.limits meaning).finishing
    machine.frames turns (started state) [])
    ∙ sym told.turns_are in
    subst (λ (n : ℕ). end.state.instructions
    ≤ most_instructions (length machine.frames) (turns - n) end.state.longest) same
    (bounded machine.limits meaning machine.frames turns state [])
