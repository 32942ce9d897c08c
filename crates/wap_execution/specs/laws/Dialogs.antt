-- Runs that go on after their dialogs, which are answered from outside. This project's own.
use Rattle.std.specs.Prelude.{List, [], ◌∷◌}
use Rattle.wap_value.specs.declared.value.Value.{Value}
use Rattle.wap_execution.specs.Outcomes.{Outcome, waits, Ended, Setting}
use Rattle.wap_execution.specs.Running.{resumed}
use Rattle.wap_execution.specs.laws.Settings.{Counted}

-- a dialog is answered by a value, and the state may be another by then, which is put in place of
-- the one before; the turns stay
abbrev pub answered_by : {S T : Type 0}
    → Setting T → (S → T → T) → Value → S → Ended T → Outcome → Ended T
answered_by setting put v state end (waits dialog frames) =
    resumed setting frames v end.turns (put state end.state)
answered_by setting put v state end _ = end

-- one dialog after the other is answered
abbrev pub continued : {S T : Type 0}
    → Setting T → (S → T → T) → List (Value × S) → Ended T → Ended T
continued setting put [] end = end
continued setting put (one ∷ more) end =
    continued setting put more (answered_by setting put one.0 one.1 end end.outcome)

-- where nothing is counted, a state is put in place of another
abbrev pub alone : {S : Type 0} → S → S → S
alone state before = state

-- what was counted stays
abbrev pub with_count : {S : Type 0} → S → Counted S → Counted S
with_count state counted = record counted { state = state }
