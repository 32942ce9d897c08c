use Rattle.std.proofs.Common.{sym, ap, ◌∙◌, Option, Some, None}
use Rattle.wap_grammar.specs.declared.program.statement.Stmt.TheVariants as stmt
use Rattle.wap_grammar.specs.declared.program.expression.Expr.{Expr}
use Rattle.wap_meaning.specs.coding.Statements.{stmt_code}
use Rattle.wap_codegen.proofs.EmissionLemmas.StatementParts.{by_form}
use Rattle.wap_codegen.proofs.EmissionLemmas.Chaining.{extends_both, extends_same}
use Rattle.std.proofs.lemmas.Result.{on_ok_weaker}
use Rattle.wap_codegen.proofs.emission.statements.add_return.Goals as goal

pub returns-in-None : goal.returns-in-None
returns-in-None c =
    on_ok_weaker _ (extends_same (sym (ap (λ (value : Option Expr). stmt_code c.args.numbering.now
    (stmt.Return value)) c.in-None.is ∙ by_form _ _ (stmt.rolls-Return None)))) c.add_plain.ensures

pub returns-in_ok-add_expression-in-Some : goal.returns-in_ok-add_expression-in-Some
returns-in_ok-add_expression-in-Some c =
    on_ok_weaker _ (extends_same (sym (ap (λ (value : Option Expr). stmt_code c.args.numbering.now
    (stmt.Return value)) c.in-Some.is
    ∙ by_form _ _ (stmt.rolls-Return (Some c.in-Some.value))))) (on_ok_weaker _
    (extends_both c.in_ok-add_expression-in-Some.ensures) c.add_plain-in-Some.ensures)
