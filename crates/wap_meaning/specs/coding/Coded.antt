-- Code in pieces that follow one another, before it has places: instructions, jumps and labels.
-- This project's own.
use Rattle.std.specs.Prelude.{ℕ, ◌+◌, ◌-◌, List, [], ◌∷◌, ◌++◌, Option, Some}
use Rattle.wap_unit.specs.declared.row.OpName.{OpName}
use Rattle.wap_unit.specs.declared.instr.Instr.{Instr}
use Rattle.wap_asm.specs.declared.form.Form.{Form}
use Rattle.wap_asm.specs.declared.form.Form.TheVariants.{Op, Jump, Label}

-- the labels to which `break` and `continue` jump, in a loop
abbrev pub Exits : Type 0
Exits = Option (ℕ × ℕ)

-- the code of a part: how many forms it has, and which, by the exits of the loop around it and by
-- the index of its first form; the number of a label is its index
pub record Coded : Type 0 where
  pub size : ℕ
  pub forms : Exits → ℕ → List Form

-- no form
abbrev pub empty : Coded
empty = record { size = 0; forms = λ exits at. [] }

-- one form
abbrev pub one : (Exits → ℕ → Form) → Coded
one form = record { size = 1; forms = λ exits at. form exits at ∷ [] }

-- one piece of code, and the next
infixr 20 ◌⨾◌
abbrev pub ◌⨾◌ : Coded → Coded → Coded
first ⨾ second = record {
  size = first.size + second.size;
  forms = λ exits at. first.forms exits at ++ second.forms exits (at + first.size);
}

-- one piece after the other
abbrev pub all_code : List Coded → Coded
all_code [] = empty
all_code (coded ∷ more) = coded ⨾ all_code more

-- an operation with its operands; where it ends isn't known yet
abbrev pub instr : OpName → ℕ → ℕ → ℕ → Instr
instr name a b c = record { name = name; a = a; b = b; c = c; next = 0 }

-- an operation without operands
abbrev pub plain : OpName → Coded
plain name = one (λ exits at. Op (instr name 0 0 0))

-- an operation with one operand
abbrev pub with_operand : OpName → ℕ → Coded
with_operand name a = one (λ exits at. Op (instr name a 0 0))

-- a label
abbrev pub label : Coded
label = one (λ exits at. Label at)

-- a jump over so many forms to the label behind them
abbrev pub jump_over : OpName → ℕ → Coded
jump_over name count = one (λ exits at. Jump name (at + 1 + count))

-- a jump back to the label so many forms before
abbrev pub jump_before : OpName → ℕ → Coded
jump_before name count = one (λ exits at. Jump name (at - count))

-- the body of a loop, behind whose beginning the labels of `break` and `continue` stand so many
-- forms
abbrev pub within : ℕ → ℕ → Coded → Coded
within breaks continues body = record {
  size = body.size;
  forms = λ exits at. body.forms (Some (at + breaks, at + continues)) at;
}
