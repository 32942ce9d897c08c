use Rattle.std.proofs.Common.{Option, sym, ap, ◌∙◌}
use Rattle.wap_value.specs.declared.operator.BinOp.{BinOp}
use Rattle.wap_grammar.specs.declared.program.expression.Expr.TheOpen.{Expr-F}
use Rattle.wap_grammar.specs.declared.program.expression.Expr.TheVariants as expr
use Rattle.wap_meaning.specs.compiled.Savings.{effect_saves}
use Rattle.wap_codegen.proofs.Saving.{by_form}
use Rattle.wap_codegen.proofs.savings.effect_saves.Goals as goal

pub returns-in-None : goal.returns-in-None
returns-in-None c =
    sym (by_form _ _ (expr.rolls-Assign _ _ _) c.in-Assign.is
    ∙ ap (λ (o : Option BinOp). effect_saves
    (Expr-F.Assign c.in-Assign.field-0 o c.in-Assign.field-2)) c.in-None.is)

pub returns-in-Lit : goal.returns-in-Lit
returns-in-Lit c = sym (by_form _ _ (expr.rolls-Lit _) c.in-Lit.is)

pub returns-in-Var : goal.returns-in-Var
returns-in-Var c = sym (by_form _ _ (expr.rolls-Var _) c.in-Var.is)

pub returns-in-Step : goal.returns-in-Step
returns-in-Step c = sym (by_form _ _ (expr.rolls-Step _ _ _) c.in-Step.is)

pub returns-in-Unary : goal.returns-in-Unary
returns-in-Unary c = sym (by_form _ _ (expr.rolls-Unary _ _) c.in-Unary.is)

pub returns-in-Chain : goal.returns-in-Chain
returns-in-Chain c = sym (by_form _ _ (expr.rolls-Chain _ _) c.in-Chain.is)

pub returns-in-Cond : goal.returns-in-Cond
returns-in-Cond c = sym (by_form _ _ (expr.rolls-Cond _ _ _) c.in-Cond.is)

pub returns-in-Call : goal.returns-in-Call
returns-in-Call c = sym (by_form _ _ (expr.rolls-Call _ _) c.in-Call.is)

pub returns-in-External : goal.returns-in-External
returns-in-External c = sym (by_form _ _ (expr.rolls-External _ _ _) c.in-External.is)

pub returns-in-Library : goal.returns-in-Library
returns-in-Library c = sym (by_form _ _ (expr.rolls-Library _ _ _) c.in-Library.is)
