-- Parts of the code of statements and loops. This project's own.
use Rattle.std.specs.Prelude.{◌≡◌, ℕ, List, [], ◌∷◌, ◌++◌, length, slice_set, Bool, true, false}
use Rattle.std.specs.Prelude.{Option, Some, None}
use Rattle.wap_value.specs.declared.operator.BinOp.{BinOp}
use Rattle.wap_value.specs.declared.operator.BinOp.TheVariants as bin
use Rattle.wap_unit.specs.declared.row.OpName.{OpName}
use Rattle.wap_unit.specs.declared.row.OpName.TheVariants as op
use Rattle.wap_asm.specs.declared.form.Form.{Form}
use Rattle.wap_asm.specs.declared.form.Form.TheVariants.{Op, Jump}
use Rattle.wap_grammar.specs.declared.program.expression.Expr.{Expr}
use Rattle.wap_meaning.specs.coding.Coded.{Coded, ◌⨾◌, instr}
use Rattle.wap_meaning.specs.coding.Constants.{Numbers}
use Rattle.wap_meaning.specs.coding.Expressions.{store_code, expr_code}
use Rattle.wap_meaning.specs.coding.Statements.{dropped_code, changed_code}
use Rattle.wap_codegen.specs.emission.inside.Adding.{Extends}

-- the operation that changes a variable by the right side of an assignment with this operator
abbrev pub change_of : Option BinOp → Option OpName
change_of None = None
change_of (Some bin.Add) = Some op.AddAsg
change_of (Some bin.Sub) = Some op.SubAsg
change_of (Some _) = None

-- an assignment that is a statement and has an operator, by that operation if there is one
abbrev pub named_code : Numbers → ℕ → Option OpName → Expr → Coded → Coded
named_code numbers index None e whole = dropped_code whole
named_code numbers index (Some name) e whole = changed_code numbers index name e whole

-- an assignment that is a statement, by its operator if it has one
abbrev pub assignment_code : Numbers → ℕ → Option BinOp → Expr → Coded → Coded
assignment_code numbers index None e whole = expr_code numbers e ⨾ store_code index
assignment_code numbers index (Some binop) e whole =
    named_code numbers index (change_of (Some binop)) e whole

-- the form of a `break` or `continue` in a loop, whose label isn't known yet, or outside of loops
abbrev pub exit_at : Bool → ℕ → Form
exit_at false label = Op (instr op.ReturnEs 0 0 0)
exit_at true label = Jump op.JumpFw label

-- forms with a condition and its jump, at this index, if there is one
abbrev pub Tests : Numbers → Option Expr → List Form → List Form → ℕ → Type 0
Tests numbers None old new index = new ≡ old
Tests numbers (Some e) old new index =
    (middle : List Form) × Extends (expr_code numbers e) old middle
    × (new ≡ middle ++ Jump op.TjumpFw 0 ∷ []) × (index ≡ length middle)

-- the jump of a condition, if there is one, has its label
abbrev pub closed : Option Expr → ℕ → ℕ → List Form → List Form
closed None index label forms = forms
closed (Some e) index label forms = slice_set forms index (Jump op.TjumpFw label)
