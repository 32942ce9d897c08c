-- Parts of the code of literals, of assignments and of chains. This project's own.
use Rattle.std.specs.Prelude.{◌≡◌, ℕ, ◌+◌, List, [], ◌∷◌, ◌++◌, map, length, slice_set, drop}
use Rattle.std.specs.Prelude.{Bool, true, false, Option, Some, None}
use Rattle.wap_value.specs.declared.operator.BinOp.{BinOp}
use Rattle.wap_unit.specs.declared.row.OpName.{OpName}
use Rattle.wap_unit.specs.declared.row.OpName.TheVariants as op
use Rattle.wap_asm.specs.declared.form.Form.{Form}
use Rattle.wap_asm.specs.declared.form.Form.TheVariants.{Jump}
use Rattle.wap_grammar.specs.declared.program.expression.Expr.{Expr}
use Rattle.wap_meaning.specs.coding.Coded.{Exits, Coded, empty, ◌⨾◌, all_code, plain, label}
use Rattle.wap_meaning.specs.coding.Constants.{Numbers}
use Rattle.wap_meaning.specs.coding.Expressions.{short_code, load_code, store_code, binary_name}
use Rattle.wap_meaning.specs.coding.Expressions.{expr_code, chain_code}
use Rattle.wap_codegen.specs.emission.inside.Adding.{Adds, Extends}
use Rattle.wap_codegen.specs.declared.emission.operators.Joint.{Joint}
use Rattle.wap_codegen.specs.declared.emission.operators.Joint.TheVariants as joint

-- ---- literals

-- the operation that gives a Boolean
abbrev pub truth_name : Bool → OpName
truth_name true = op.ConstTrue
truth_name false = op.ConstFalse

-- ---- assignments

-- what stands before the right side
abbrev pub before_code : ℕ → Option BinOp → Coded
before_code variable None = empty
before_code variable (Some operator) = load_code variable

-- and behind it
abbrev pub after_code : ℕ → Option BinOp → Coded
after_code variable None = store_code variable ⨾ load_code variable
after_code variable (Some operator) =
    plain (binary_name operator) ⨾ store_code variable ⨾ load_code variable

-- ---- chains

-- an operator and the operand on its right, behind that on its left
abbrev pub joint_code : Joint → Coded → Coded
joint_code (joint.Short name) second = short_code name second
joint_code joint.Drops second = plain op.Pop ⨾ second
joint_code (joint.Both name) second = second ⨾ plain name

-- forms with what stands before the right operand, with a jump at this index if there is one
abbrev pub Begins : Joint → List Form → List Form → ℕ → Type 0
Begins (joint.Short name) old new jump =
    (middle : List Form) × Extends (plain name) old middle
    × (new ≡ middle ++ Jump op.TjumpFw 0 ∷ []) × (jump ≡ length middle)
Begins joint.Drops old new jump = Extends (plain op.Pop) old new
Begins (joint.Both name) old new jump = new ≡ old

-- and with what stands behind it
abbrev pub Ends : Joint → ℕ → List Form → List Form → Type 0
Ends (joint.Short name) jump old new =
    (middle : List Form) × Extends (plain op.Tobool ⨾ label) old middle
    × (new ≡ slice_set middle jump (Jump op.TjumpFw (length old + 1)))
Ends joint.Drops jump old new = new ≡ old
Ends (joint.Both name) jump old new = Extends (plain name) old new

-- the operands of a chain with their code
abbrev pub coded : Numbers → List (BinOp × Expr) → List (BinOp × Coded)
coded numbers operands = map (λ operand. (operand.0, expr_code numbers operand.1)) operands

-- operands of a chain are added, whatever comes before them
abbrev pub Chains : Numbers → List (BinOp × Expr) → List Form → List Form → Type 0
Chains numbers operands old new =
    (first : Coded) (exits : Exits) (before : List Form) → Adds first exits before old
    → Adds (chain_code first (coded numbers operands)) exits before new

-- ---- what a loop over items has done

-- of these items so many are added: with the rest all are
abbrev pub Leaves : {X : Type 0} → (X → Coded) → Exits → List X → ℕ → List Form → List Form → Type 0
Leaves f exits xs i old here =
    (last : List Form) → Adds (all_code (map f (drop i xs))) exits here last
    → Adds (all_code (map f xs)) exits old last

-- the same of the operands of a chain, whatever comes before them
abbrev pub LeavesOperands : Numbers → List (BinOp × Expr) → ℕ → List Form → List Form → Type 0
LeavesOperands numbers operands i old here =
    (first : Coded) (exits : Exits) (before : List Form) → Adds first exits before old
    → (whole : Coded) × Adds whole exits before here
    × (chain_code whole (coded numbers (drop i operands))
    ≡ chain_code first (coded numbers operands))
