use Rattle.std.proofs.Common.{List, Option, Some, None, sym, ap, ◌∙◌, arith}
use Rattle.std.specs.List.{sum_by}
use Rattle.wap_grammar.specs.declared.program.statement.Stmt.{Stmt}
use Rattle.wap_grammar.specs.declared.program.statement.Stmt.TheVariants as stmt
use Rattle.wap_meaning.specs.compiled.Savings.{stmt_saves}
use Rattle.wap_codegen.proofs.Saving.{by_statement, of_block}
use Rattle.wap_codegen.proofs.savings.+savings.Goals as goal

pub statement_saves-returns-in-Empty : goal.statement_saves-returns-in-Empty
statement_saves-returns-in-Empty t c = λ few. sym (by_statement _ _ stmt.rolls-Empty c.in-Empty.is)

pub statement_saves-returns-in-Expr : goal.statement_saves-returns-in-Expr
statement_saves-returns-in-Expr t c = λ few.
    c.effect_saves.ensures ∙ sym (by_statement _ _ (stmt.rolls-Expr _) c.in-Expr.is)

pub statement_saves-returns-in-Block : goal.statement_saves-returns-in-Block
statement_saves-returns-in-Block t c = λ few.
    omega (
      arith,
      c.statements_save.ensures,
      ap (λ (ss : List Stmt). sum_by stmt_saves ss) c.as_slice.ensures,
      of_block c.args.statement.now c.in-Block.inner c.in-Block.is,
    )

pub statement_saves-returns-in-Vars : goal.statement_saves-returns-in-Vars
statement_saves-returns-in-Vars t c = λ few.
    sym (by_statement _ _ (stmt.rolls-Vars _) c.in-Vars.is)

pub statement_saves-returns-in-None : goal.statement_saves-returns-in-None
statement_saves-returns-in-None t c = λ few.
    omega (
      arith,
      by_statement _ _ (stmt.rolls-If c.in-If.field-0 c.in-If.body None) (c.in-If.is
          ∙ ap (λ (o : Option Stmt). stmt.If c.in-If.field-0 c.in-If.body o) c.in-None.is),
      c.statement_saves.ensures,
      ap stmt_saves c.get.ensures,
    )

pub statement_saves-returns-in-Some : goal.statement_saves-returns-in-Some
statement_saves-returns-in-Some t c = λ few.
    omega (
      arith,
      by_statement _ _ (stmt.rolls-If c.in-If.field-0 c.in-If.body (Some c.in-Some.other))
          (c.in-If.is
          ∙ ap (λ (o : Option Stmt). stmt.If c.in-If.field-0 c.in-If.body o) c.in-Some.is),
      c.statement_saves-first.ensures,
      ap stmt_saves c.get-in-Some.ensures,
      c.statement_saves-in-Some.ensures,
      ap stmt_saves c.get-in-Some-2.ensures,
      c.saturating_add.ensures,
    )

pub statement_saves-returns-in-While : goal.statement_saves-returns-in-While
statement_saves-returns-in-While t c = λ few.
    omega (
      arith,
      by_statement _ _ (stmt.rolls-While _ _) c.in-While.is,
      c.statement_saves-in-While.ensures,
      ap stmt_saves c.get-in-While.ensures,
    )

pub statement_saves-returns-in-For : goal.statement_saves-returns-in-For
statement_saves-returns-in-For t c = λ few.
    omega (
      arith,
      by_statement _ _ (stmt.rolls-For _ _ _ _) c.in-For.is,
      c.statement_saves-in-For.ensures,
      ap stmt_saves c.get-in-For.ensures,
      c.update_saves.ensures,
      c.statement_saves-in-For-2.ensures,
      ap stmt_saves c.get-in-For-2.ensures,
      c.saturating_add-begins.ensures,
      c.saturating_add-in-For.ensures,
    )

pub statement_saves-returns-in-Break : goal.statement_saves-returns-in-Break
statement_saves-returns-in-Break t c = λ few.
    sym (by_statement _ _ (stmt.rolls-Break _) c.in-Break.is)

pub statement_saves-returns-in-Continue : goal.statement_saves-returns-in-Continue
statement_saves-returns-in-Continue t c = λ few.
    sym (by_statement _ _ (stmt.rolls-Continue _) c.in-Continue.is)

pub statement_saves-returns-in-Return : goal.statement_saves-returns-in-Return
statement_saves-returns-in-Return t c = λ few.
    sym (by_statement _ _ (stmt.rolls-Return _) c.in-Return.is)
