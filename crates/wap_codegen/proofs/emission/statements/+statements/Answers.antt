use Rattle.std.proofs.Common.{◌≡◌, ◌+◌, List, map, length, Option, Some, None, sym, ap, ◌∙◌, refl}
use Rattle.std.proofs.Common.{arith}
use Rattle.std.specs.Option.{option_copied}
use Rattle.std.proofs.lemmas.List.{length_push}
use Rattle.wap_unit.specs.declared.row.OpName.TheVariants as op
use Rattle.wap_asm.specs.declared.form.Form.TheVariants.{Jump}
use Rattle.wap_grammar.specs.declared.program.program.Id.{Id}
use Rattle.wap_grammar.specs.declared.program.expression.Expr.{Expr}
use Rattle.wap_grammar.specs.declared.program.statement.Stmt.{Stmt}
use Rattle.wap_grammar.specs.declared.program.statement.Stmt.TheVariants as stmt
use Rattle.wap_meaning.specs.coding.Coded.{empty, ◌⨾◌, all_code}
use Rattle.wap_meaning.specs.coding.Expressions.{expr_code, cond_code}
use Rattle.wap_meaning.specs.coding.Statements.{stmt_code, branch_code, declared_code, loop_code}
use Rattle.wap_meaning.specs.coding.Statements.{test_code}
use Rattle.wap_codegen.specs.emission.inside.Exits.{exits_in}
use Rattle.wap_codegen.proofs.EmissionLemmas.Extending.{adds_empty, adds_both}
use Rattle.wap_codegen.proofs.EmissionLemmas.Chaining.{adds_same, cond_adds, leaves_more}
use Rattle.wap_codegen.proofs.EmissionLemmas.Chaining.{leaves_none}
use Rattle.wap_codegen.proofs.EmissionLemmas.Branching.{branch_adds, in_break, in_continue}
use Rattle.wap_codegen.proofs.EmissionLemmas.Looping.{whole_loop}
use Rattle.wap_codegen.proofs.EmissionLemmas.StatementParts.{by_form, of_same_for}
use Rattle.std.proofs.lemmas.Result.{on_ok_weaker}
use Rattle.wap_codegen.proofs.emission.statements.+statements.Goals as goal

pub add_statement-returns-in-Empty : goal.add_statement-returns-in-Empty
add_statement-returns-in-Empty t c =
    adds_same (sym (ap (stmt_code c.args.numbering.now) c.in-Empty.is
    ∙ by_form _ _ stmt.rolls-Empty)) (adds_empty (exits_in c.args.inside) c.args.forms.now.items
    c.args.forms.now.items refl)

pub add_statements-loop-statement-preserved : goal.add_statements-loop-statement-preserved
add_statements-loop-statement-preserved t c =
    leaves_more _ _ _ _ _ _ _ _ c.loop-statement-test.true c.statement-item.is
    c.loop-statement.invariant c.in_ok-add_statement.ensures

pub add_statements-returns : goal.add_statements-returns
add_statements-returns t c =
    leaves_none _ _ _ _ _ _ c.loop-statement-test.false c.loop-statement.invariant

pub add_loop-redirect-requires : goal.add_loop-redirect-requires
add_loop-redirect-requires t c =
    let long : length c.add.new.forms.items ≡ length c.add_update.new.forms.items + 1 =
    ap length c.in_ok-add.ensures
    ∙ length_push c.add_update.new.forms.items (Jump op.JumpBw c.in_ok-start.start) in
    omega (
      arith,
      c.len-to.ensures,
      (c.in_ok-again.ensures.added None).sized,
      (c.in_ok-add_update.ensures None).sized,
      long,
      (c.in_ok-end.ensures.added None).sized,
    )

pub add_loop-returns : goal.add_loop-returns
add_loop-returns t c = λ exits.
    whole_loop _ _ _ _ _ _ _ _ _ (c.in_ok-start.ensures.added exits) c.in_ok-start.ensures.number
    c.in_ok-test.ensures c.in_ok-add_statement.ensures
    (c.in_ok-again.ensures.added exits) c.in_ok-again.ensures.number
    (c.in_ok-add_update.ensures exits) c.in_ok-add.ensures
    (c.in_ok-end.ensures.added exits) c.in_ok-end.ensures.number c.in_ok-end.ensures.within
    (λ before items after split starts ends. c.redirect.ensures before items after split
    (omega (arith, c.len-from.ensures, starts)) (omega
    (arith, c.len-to.ensures, ends))) c.close_test.ensures

pub add_statement-returns-in-Block : goal.add_statement-returns-in-Block
add_statement-returns-in-Block t c =
    on_ok_weaker _ (adds_same (ap (λ (ss : List Stmt). all_code
    (map (stmt_code c.args.numbering.now) ss)) c.as_slice.ensures
    ∙ sym (ap (stmt_code c.args.numbering.now) c.in-Block.is
    ∙ by_form _ _ (stmt.rolls-Block _)))) c.add_statements.ensures

pub add_statement-returns-in-Vars : goal.add_statement-returns-in-Vars
add_statement-returns-in-Vars t c =
    on_ok_weaker _ (adds_same (ap (λ (pairs : List (Id × Option Expr)). all_code
    (map (declared_code c.args.numbering.now) pairs)) c.as_slice-in-Vars.ensures
    ∙ sym (ap (stmt_code c.args.numbering.now) c.in-Vars.is
    ∙ by_form _ _ (stmt.rolls-Vars _)))) (on_ok_weaker c.add_declarations.result (λ adds. adds
    (exits_in c.args.inside)) c.add_declarations.ensures)

pub add_statement-returns-in_ok-end-in-None : goal.add_statement-returns-in_ok-end-in-None
add_statement-returns-in_ok-end-in-None t c =
    adds_same (ap (λ (s : Stmt). expr_code c.args.numbering.now c.in-If.condition ⨾ branch_code
    (stmt_code c.args.numbering.now s)) c.get.ensures
    ∙ sym (ap (stmt_code c.args.numbering.now) (c.in-If.is
    ∙ ap (λ (other : Option Stmt). stmt.If c.in-If.condition c.in-If.body other) c.in-None.is)
    ∙ by_form _ _ (stmt.rolls-If _ _ None))) (branch_adds (c.in_ok-add_expression-in-If.ensures
    (exits_in c.args.inside)) c.in_ok-test-in-If.ensures.added c.in_ok-test-in-If.ensures.index
    c.in_ok-add_statement-in-If.ensures (c.in_ok-end-in-None.ensures.added
    (exits_in c.args.inside)) c.in_ok-end-in-None.ensures.number c.close.ensures)

pub add_statement-returns-in_ok-end-in-Some : goal.add_statement-returns-in_ok-end-in-Some
add_statement-returns-in_ok-end-in-Some t c =
    adds_same (ap (λ (s : Stmt). cond_code (expr_code c.args.numbering.now c.in-If.condition)
    (stmt_code c.args.numbering.now s) (stmt_code c.args.numbering.now c.get-in-Some.result.now))
    c.get.ensures ∙ ap (λ (s : Stmt). cond_code (expr_code c.args.numbering.now c.in-If.condition)
    (stmt_code c.args.numbering.now c.in-If.body)
    (stmt_code c.args.numbering.now s)) c.get-in-Some.ensures
    ∙ sym (ap (stmt_code c.args.numbering.now) (c.in-If.is
    ∙ ap (λ (other : Option Stmt). stmt.If c.in-If.condition c.in-If.body other) c.in-Some.is)
    ∙ by_form _ _ (stmt.rolls-If _ _ (Some _)))) (cond_adds (c.in_ok-add_expression-in-If.ensures
    (exits_in c.args.inside)) c.in_ok-test-in-If.ensures.added c.in_ok-test-in-If.ensures.index
    c.in_ok-add_statement-in-If.ensures c.in_ok-over-in-Some.ensures.added
    c.in_ok-over-in-Some.ensures.index (c.in_ok-no-in-Some.ensures.added
    (exits_in c.args.inside)) c.in_ok-no-in-Some.ensures.number
    c.in_ok-add_statement-in-Some.ensures (c.in_ok-end-in-Some.ensures.added
    (exits_in c.args.inside)) c.in_ok-end-in-Some.ensures.number c.close-in-Some.ensures
    c.close-in-Some-2.ensures)

pub add_statement-returns-in-While : goal.add_statement-returns-in-While
add_statement-returns-in-While t c =
    on_ok_weaker _ (adds_same (ap (λ (s : Stmt). loop_code (test_code c.args.numbering.now
    (Some c.in-While.condition)) (stmt_code c.args.numbering.now s) empty) c.get-in-While.ensures
    ∙ sym (ap (stmt_code c.args.numbering.now) c.in-While.is
    ∙ by_form _ _ (stmt.rolls-While _ _)))) (on_ok_weaker c.add_loop.result (λ adds. adds
    (exits_in c.args.inside)) c.add_loop.ensures)

pub add_statement-returns-in_ok-add_statement-in-For :
    goal.add_statement-returns-in_ok-add_statement-in-For
add_statement-returns-in_ok-add_statement-in-For t c =
    on_ok_weaker _ (adds_same (of_same_for _ _ _
    (option_copied c.as_ref-condition.result) c.in-For.condition
    (option_copied c.as_ref.result) c.in-For.update c.get-in-For-2.result.now c.in-For.body
    c.get-in-For.ensures c.as_ref-condition.ensures.value c.as_ref.ensures.value
    c.get-in-For-2.ensures ∙ sym (ap (stmt_code c.args.numbering.now) c.in-For.is)))
    (on_ok_weaker _ (adds_both c.in_ok-add_statement-in-For.ensures)
    (on_ok_weaker c.add_loop-in-For.result (λ adds. adds
    (exits_in c.args.inside)) c.add_loop-in-For.ensures))

pub add_statement-returns-in-Break : goal.add_statement-returns-in-Break
add_statement-returns-in-Break t c =
    on_ok_weaker _ (adds_same (sym (ap (stmt_code c.args.numbering.now) c.in-Break.is
    ∙ by_form _ _ (stmt.rolls-Break _)))) (in_break _ _ _ _ c.add_exit.ensures)

pub add_statement-returns-in-Continue : goal.add_statement-returns-in-Continue
add_statement-returns-in-Continue t c =
    on_ok_weaker _ (adds_same (sym (ap (stmt_code c.args.numbering.now) c.in-Continue.is
    ∙ by_form _ _ (stmt.rolls-Continue _)))) (in_continue _ _ _ _ c.add_exit-in-Continue.ensures)
