-- The code of expressions, by their parts.
use Rattle.std.proofs.Common.{◌≡◌, ℕ, Bool, true, false, List, [], ◌∷◌, length, map, Result, OnOk}
use Rattle.std.proofs.Common.{refl, sym, ap, ◌∙◌, subst}
use Rattle.std.proofs.lemmas.List.{length-map}
use Rattle.wap_value.specs.declared.operator.BinOp.{BinOp}
use Rattle.wap_unit.specs.declared.row.OpName.TheVariants as op
use Rattle.wap_asm.specs.declared.form.Form.{Form}
use Rattle.wap_asm.specs.declared.form.Form.TheVariants.{Op}
use Rattle.wap_grammar.specs.declared.program.program.Id.{Id}
use Rattle.wap_grammar.specs.declared.program.expression.Literal.TheVariants as literal
use Rattle.wap_grammar.specs.declared.program.expression.Expr.{Expr, roll-Expr, map-Expr}
use Rattle.wap_grammar.specs.declared.program.expression.Expr.TheOpen.{Expr-F}
use Rattle.wap_grammar.specs.declared.program.expression.Expr.TheFolds.{fold-roll-Expr}
use Rattle.wap_grammar.specs.declared.program.expression.Expr.TheVariants as expr
use Rattle.wap_meaning.specs.coding.Coded.{Coded, one, ◌⨾◌, all_code, instr, plain, with_operand}
use Rattle.wap_meaning.specs.coding.Constants.{Numbers, text_number, url_number}
use Rattle.wap_meaning.specs.coding.Expressions.{literal_code, expr_code_by, expr_code}
use Rattle.wap_codegen.specs.emission.inside.Adding.{Extends}
use Rattle.wap_codegen.specs.emission.inside.Operands.{Chains, truth_name}

-- a text that isn't empty is a constant
pub text_code : (numbers : Numbers) (text : List ℕ) → (text ≡ [] → ⊥)
    → with_operand op.LoadConst (text_number numbers text) ≡ literal_code numbers (literal.Str text)
text_code numbers [] some = absurd (some refl)
text_code numbers (c ∷ cs) some = refl

pub truth_code : (numbers : Numbers) (truth : Bool)
    → plain (truth_name truth) ≡ literal_code numbers (literal.Bool truth)
truth_code numbers true = refl
truth_code numbers false = refl

-- the operands of a call of another unit's function
pub call_code : (before : Coded) (a b c d e f : ℕ) → a ≡ d → b ≡ e → c ≡ f
    → before ⨾ one (λ exits at. Op (instr op.CallUrl a b c))
    ≡ before ⨾ one (λ exits at. Op (instr op.CallUrl d e f))
call_code before a b c d e f one_is two_is three_is =
    ap (λ n. before ⨾ one (λ exits at. Op (instr op.CallUrl n b c))) one_is
    ∙ ap (λ n. before ⨾ one (λ exits at. Op (instr op.CallUrl d n c))) two_is
    ∙ ap (λ n. before ⨾ one (λ exits at. Op (instr op.CallUrl d e n))) three_is

module _ (numbers : Numbers) where
  abbrev code : Expr → Coded
  code = expr_code numbers

  -- the code of an expression, by its form
  pub by_form : (x : Expr-F Expr) {e : Expr} → roll-Expr x ≡ e
      → code e ≡ expr_code_by numbers (map-Expr Expr Coded code x)
  unfolding expr_code
  by_form x is = ap code (sym is) ∙ fold-roll-Expr Coded (expr_code_by numbers) x

  pub of_external : (unit f : Id) (es : List Expr) → code (expr.External unit f es)
      ≡ all_code (map code es) ⨾ one (λ exits at.
      Op (instr op.CallUrl (url_number numbers unit) (text_number numbers f.name) (length es)))
  of_external unit f es = by_form _ (expr.rolls-External unit f es)
      ∙ ap (λ count. all_code (map code es) ⨾ one (λ exits at.
      Op (instr op.CallUrl (url_number numbers unit) (text_number numbers f.name) count)))
      (length-map es code)

-- ---- the same parts

pub part_same : (numbers : Numbers) (one other : Expr) (old new : List Form) → one ≡ other
    → Extends (expr_code numbers one) old new → Extends (expr_code numbers other) old new
part_same numbers one other old new same is =
    subst (λ (e : Expr). Extends (expr_code numbers e) old new) same is

pub parts_same : (numbers : Numbers) (some others : List Expr) (old new : List Form) → some ≡ others
    → Extends (all_code (map (expr_code numbers) some)) old new
    → Extends (all_code (map (expr_code numbers) others)) old new
parts_same numbers some others old new same is =
    subst (λ (es : List Expr). Extends (all_code (map (expr_code numbers) es)) old new) same is

pub chains_same : {E : Type 0} (numbers : Numbers) (some others : List (BinOp × Expr))
    (old new : List Form) (r : Result (Unit {0}) E) → some ≡ others
    → OnOk r (Chains numbers some old new) → OnOk r (Chains numbers others old new)
chains_same numbers some others old new r same is =
    subst (λ (operands : List (BinOp × Expr)). OnOk r (Chains numbers operands old new)) same is
