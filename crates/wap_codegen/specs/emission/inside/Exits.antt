-- The labels of a loop whose code isn't complete yet: others stand in their place, until its end is
-- known. This project's own.
use Rattle.std.specs.Prelude.{◌≡◌, ℕ, ◌+◌, ◌≤◌, ◌==◌, Bool, true, false, if◌then◌else◌, map}
use Rattle.std.specs.Prelude.{Some, None}
use Rattle.wap_asm.specs.declared.form.Form.{Form}
use Rattle.wap_asm.specs.declared.form.Form.TheVariants.{Op, Jump, Label}
use Rattle.wap_meaning.specs.coding.Coded.{Exits, Coded}
use Rattle.wap_codegen.specs.declared.emission.exits.TheConstants.{BREAK, CONTINUE}

-- in a loop, whose end isn't known yet, or in none
abbrev pub exits_in : Bool → Exits
exits_in false = None
exits_in true = Some (BREAK, CONTINUE)

-- a label as it is where the end of the loop is known
abbrev pub moved : ℕ → ℕ → ℕ → ℕ
moved end again label =
    if label == BREAK then end else if label == CONTINUE then again else label

-- a form as it is where the end of the loop is known
abbrev pub redirected : ℕ → ℕ → Form → Form
redirected end again (Op instr) = Op instr
redirected end again (Jump name label) = Jump name (moved end again label)
redirected end again (Label label) = Label label

-- where the exits of a loop are moved, so are the jumps in its code
abbrev pub Follows : Coded → Type 0
Follows coded = (end again first second at : ℕ) → at + coded.size ≤ CONTINUE
    → map (redirected end again) (coded.forms (Some (first, second)) at)
    ≡ coded.forms (Some (moved end again first, moved end again second)) at
