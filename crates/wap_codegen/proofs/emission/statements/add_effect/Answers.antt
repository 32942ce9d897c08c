use Rattle.std.proofs.Common.{◌∙◌, ap}
use Rattle.wap_grammar.specs.declared.program.expression.Expr.{Expr}
use Rattle.wap_grammar.specs.declared.program.expression.Expr.TheVariants as expr
use Rattle.wap_meaning.specs.Names.{variable_at}
use Rattle.wap_meaning.specs.coding.Coded.{with_operand}
use Rattle.wap_meaning.specs.coding.Expressions.{change_name, expr_code}
use Rattle.wap_codegen.specs.emission.inside.Loops.{assignment_code}
use Rattle.wap_codegen.proofs.EmissionLemmas.Chaining.{extends_same}
use Rattle.wap_codegen.proofs.EmissionLemmas.Effects.{by_form, of_assignment}
use Rattle.std.proofs.lemmas.Result.{on_ok_weaker}
use Rattle.wap_codegen.proofs.emission.statements.add_effect.Goals as goal

pub returns-in-Assign : goal.returns-in-Assign
returns-in-Assign c =
    on_ok_weaker _ (extends_same (ap (λ place. assignment_code c.args.numbering.now place
    c.in-Assign.operator c.get.result.now (expr_code c.args.numbering.now c.args.expression.now))
    c.variable-place.ensures ∙ ap (λ (right : Expr). assignment_code c.args.numbering.now
    (variable_at c.args.numbering.now.names c.in-Assign.variable) c.in-Assign.operator right
    (expr_code c.args.numbering.now c.args.expression.now)) c.get.ensures
    ∙ of_assignment _ _ _ _ _ c.in-Assign.is)) c.add_assigned.ensures

pub returns-in-Lit : goal.returns-in-Lit
returns-in-Lit c =
    on_ok_weaker _ (extends_same (by_form _ _ _ (expr.rolls-Lit _) c.in-Lit.is))
    c.add_dropped.ensures

pub returns-in-Var : goal.returns-in-Var
returns-in-Var c =
    on_ok_weaker _ (extends_same (by_form _ _ _ (expr.rolls-Var _) c.in-Var.is))
    c.add_dropped-in-Var.ensures

pub returns-in-Step : goal.returns-in-Step
returns-in-Step c =
    on_ok_weaker _ (extends_same (ap (λ name. with_operand name c.variable.result)
    c.change_name.ensures ∙ ap (λ place. with_operand
    (change_name c.in-Step.up) place) c.variable.ensures
    ∙ by_form _ _ _ (expr.rolls-Step _ _ _) c.in-Step.is)) c.add_with.ensures

pub returns-in-Unary : goal.returns-in-Unary
returns-in-Unary c =
    on_ok_weaker _ (extends_same (by_form _ _ _ (expr.rolls-Unary _ _) c.in-Unary.is))
    c.add_dropped-in-Unary.ensures

pub returns-in-Chain : goal.returns-in-Chain
returns-in-Chain c =
    on_ok_weaker _ (extends_same (by_form _ _ _ (expr.rolls-Chain _ _) c.in-Chain.is))
    c.add_dropped-in-Chain.ensures

pub returns-in-Cond : goal.returns-in-Cond
returns-in-Cond c =
    on_ok_weaker _ (extends_same (by_form _ _ _ (expr.rolls-Cond _ _ _) c.in-Cond.is))
    c.add_dropped-in-Cond.ensures

pub returns-in-Call : goal.returns-in-Call
returns-in-Call c =
    on_ok_weaker _ (extends_same (by_form _ _ _ (expr.rolls-Call _ _) c.in-Call.is))
    c.add_dropped-in-Call.ensures

pub returns-in-External : goal.returns-in-External
returns-in-External c =
    on_ok_weaker _ (extends_same (by_form _ _ _ (expr.rolls-External _ _ _) c.in-External.is))
    c.add_dropped-in-External.ensures

pub returns-in-Library : goal.returns-in-Library
returns-in-Library c =
    on_ok_weaker _ (extends_same (by_form _ _ _ (expr.rolls-Library _ _ _) c.in-Library.is))
    c.add_dropped-in-Library.ensures
