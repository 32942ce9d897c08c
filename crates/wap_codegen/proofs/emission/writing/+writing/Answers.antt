use Rattle.std.proofs.Common.{◌≡◌, Bool, true, false, eqb, ◌||◌, List, refl, sym, ap, ◌∙◌}
use Rattle.std.proofs.Common.{eq-eqb, ne_eqb}
use Rattle.std.specs.List.{list_any}
use Rattle.wap_value.specs.declared.operator.BinOp.{BinOp}
use Rattle.wap_grammar.specs.declared.program.expression.Expr.{Expr}
use Rattle.wap_grammar.specs.declared.program.expression.Expr.TheVariants as expr
use Rattle.wap_meaning.specs.coding.Statements.{writes}
use Rattle.wap_codegen.proofs.EmissionLemmas.WritingParts.{by_form, of_chain, of_local}
use Rattle.wap_codegen.proofs.EmissionLemmas.WritingParts.{of_external, of_library}
use Rattle.wap_codegen.proofs.emission.writing.+writing.Goals as goal

-- the first of two decides
by_first : (a b : Bool) → a ≡ true → a ≡ (a || b)
by_first true b is = refl
by_first false b is = absurd (cc is)

-- or the second
by_second : (a b : Bool) → a ≡ false → b ≡ (a || b)
by_second true b is = absurd (cc is)
by_second false b is = refl

-- the first of three decides
first_of_three : (a b c : Bool) → a ≡ true → true ≡ (a || (b || c))
first_of_three true b c is = refl
first_of_three false b c is = absurd (cc is)

-- or the second
second_of_three : (a b c : Bool) → a ≡ false → b ≡ true → true ≡ (a || (b || c))
second_of_three false true c is also = refl
second_of_three false false c is also = absurd (cc also)
second_of_three true b c is also = absurd (cc is)

-- or the third
third_of_three : (a b c : Bool) → a ≡ false → b ≡ false → c ≡ (a || (b || c))
third_of_three false false c is also = refl
third_of_three false true c is also = absurd (cc also)
third_of_three true b c is also = absurd (cc is)

pub writes-returns-in-Lit : goal.writes-returns-in-Lit
writes-returns-in-Lit t c =
    let does : Expr → Bool = λ e. writes c.args.numbering.now.names e c.args.variable in
    sym (ap does c.in-Lit.is ∙ by_form _ _ _ (expr.rolls-Lit _))

pub writes-returns-in-Var : goal.writes-returns-in-Var
writes-returns-in-Var t c =
    let does : Expr → Bool = λ e. writes c.args.numbering.now.names e c.args.variable in
    sym (ap does c.in-Var.is ∙ by_form _ _ _ (expr.rolls-Var _))

pub writes-returns-then-variable : goal.writes-returns-then-variable
writes-returns-then-variable t c =
    let does : Expr → Bool = λ e. writes c.args.numbering.now.names e c.args.variable in
    by_first (eqb c.variable.result c.args.variable) (does c.in-Assign.value)
    (eq-eqb c.variable.result c.args.variable c.if-variable.true)
    ∙ ap (λ place. eqb place c.args.variable || does c.in-Assign.value) c.variable.ensures
    ∙ sym (ap does c.in-Assign.is ∙ by_form _ _ _ (expr.rolls-Assign _ _ _))

pub writes-returns-else-variable : goal.writes-returns-else-variable
writes-returns-else-variable t c =
    let does : Expr → Bool = λ e. writes c.args.numbering.now.names e c.args.variable in
    c.writes.ensures ∙ ap does c.get.ensures
    ∙ by_second (eqb c.variable.result c.args.variable) (does c.in-Assign.value)
    (ne_eqb c.variable.result c.args.variable c.if-variable.false)
    ∙ ap (λ place. eqb place c.args.variable || does c.in-Assign.value) c.variable.ensures
    ∙ sym (ap does c.in-Assign.is ∙ by_form _ _ _ (expr.rolls-Assign _ _ _))

pub writes-returns-in-Step : goal.writes-returns-in-Step
writes-returns-in-Step t c =
    let does : Expr → Bool = λ e. writes c.args.numbering.now.names e c.args.variable in
    ap (λ place. eqb place c.args.variable) c.variable-in-Step.ensures
    ∙ sym (ap does c.in-Step.is ∙ by_form _ _ _ (expr.rolls-Step _ _ _))

pub writes-returns-in-Unary : goal.writes-returns-in-Unary
writes-returns-in-Unary t c =
    let does : Expr → Bool = λ e. writes c.args.numbering.now.names e c.args.variable in
    c.writes-in-Unary.ensures ∙ ap does c.get-in-Unary.ensures
    ∙ sym (ap does c.in-Unary.is ∙ by_form _ _ _ (expr.rolls-Unary _ _))

pub writes-returns-then-writes : goal.writes-returns-then-writes
writes-returns-then-writes t c =
    let does : Expr → Bool = λ e. writes c.args.numbering.now.names e c.args.variable in
    let any : List (BinOp × Expr) → Bool = λ operands. list_any
    (λ operand. writes c.args.numbering.now.names operand.1 c.args.variable) operands in
    by_first c.writes-in-Chain.result (any c.in-Chain.operands) c.if-writes.true
    ∙ ap (λ truth. truth || any c.in-Chain.operands)
    (c.writes-in-Chain.ensures ∙ ap does c.get-in-Chain.ensures)
    ∙ sym (ap does c.in-Chain.is ∙ of_chain _ _ _ _)

pub writes-returns-else-writes : goal.writes-returns-else-writes
writes-returns-else-writes t c =
    let does : Expr → Bool = λ e. writes c.args.numbering.now.names e c.args.variable in
    let any : List (BinOp × Expr) → Bool = λ operands. list_any
    (λ operand. writes c.args.numbering.now.names operand.1 c.args.variable) operands in
    c.an_operand_writes.ensures ∙ ap any c.as_slice.ensures
    ∙ by_second c.writes-in-Chain.result (any c.in-Chain.operands) c.if-writes.false
    ∙ ap (λ truth. truth || any c.in-Chain.operands)
    (c.writes-in-Chain.ensures ∙ ap does c.get-in-Chain.ensures)
    ∙ sym (ap does c.in-Chain.is ∙ of_chain _ _ _ _)

pub writes-returns-then-writes-2 : goal.writes-returns-then-writes-2
writes-returns-then-writes-2 t c =
    let does : Expr → Bool = λ e. writes c.args.numbering.now.names e c.args.variable in
    first_of_three (does c.in-Cond.condition) (does c.in-Cond.yes) (does c.in-Cond.no)
    (sym (c.writes-in-Cond.ensures ∙ ap does c.get-in-Cond.ensures) ∙ c.if-writes-2.true)
    ∙ sym (ap does c.in-Cond.is ∙ by_form _ _ _ (expr.rolls-Cond _ _ _))

pub writes-returns-then-writes-3 : goal.writes-returns-then-writes-3
writes-returns-then-writes-3 t c =
    let does : Expr → Bool = λ e. writes c.args.numbering.now.names e c.args.variable in
    second_of_three (does c.in-Cond.condition) (does c.in-Cond.yes) (does c.in-Cond.no)
    (sym (c.writes-in-Cond.ensures ∙ ap does c.get-in-Cond.ensures) ∙ c.if-writes-2.false)
    (sym (c.writes-in-Cond-2.ensures ∙ ap does c.get-in-Cond-2.ensures) ∙ c.if-writes-3.true)
    ∙ sym (ap does c.in-Cond.is ∙ by_form _ _ _ (expr.rolls-Cond _ _ _))

pub writes-returns-else-writes-3 : goal.writes-returns-else-writes-3
writes-returns-else-writes-3 t c =
    let does : Expr → Bool = λ e. writes c.args.numbering.now.names e c.args.variable in
    c.writes-in-Cond-3.ensures ∙ ap does c.get-in-Cond-3.ensures
    ∙ third_of_three (does c.in-Cond.condition) (does c.in-Cond.yes) (does c.in-Cond.no)
    (sym (c.writes-in-Cond.ensures ∙ ap does c.get-in-Cond.ensures) ∙ c.if-writes-2.false)
    (sym (c.writes-in-Cond-2.ensures ∙ ap does c.get-in-Cond-2.ensures) ∙ c.if-writes-3.false)
    ∙ sym (ap does c.in-Cond.is ∙ by_form _ _ _ (expr.rolls-Cond _ _ _))

pub writes-returns-in-Call : goal.writes-returns-in-Call
writes-returns-in-Call t c =
    let does : Expr → Bool = λ e. writes c.args.numbering.now.names e c.args.variable in
    let any : List Expr → Bool = λ es.
    list_any (λ e. writes c.args.numbering.now.names e c.args.variable) es in
    c.an_argument_writes.ensures ∙ ap any c.as_slice-in-Call.ensures
    ∙ sym (ap does c.in-Call.is ∙ of_local _ _ _ _)

pub writes-returns-in-External : goal.writes-returns-in-External
writes-returns-in-External t c =
    let does : Expr → Bool = λ e. writes c.args.numbering.now.names e c.args.variable in
    let any : List Expr → Bool = λ es.
    list_any (λ e. writes c.args.numbering.now.names e c.args.variable) es in
    c.an_argument_writes-in-External.ensures ∙ ap any c.as_slice-in-External.ensures
    ∙ sym (ap does c.in-External.is ∙ of_external _ _ _ _ _)

pub writes-returns-in-Library : goal.writes-returns-in-Library
writes-returns-in-Library t c =
    let does : Expr → Bool = λ e. writes c.args.numbering.now.names e c.args.variable in
    let any : List Expr → Bool = λ es.
    list_any (λ e. writes c.args.numbering.now.names e c.args.variable) es in
    c.an_argument_writes-in-Library.ensures ∙ ap any c.as_slice-in-Library.ensures
    ∙ sym (ap does c.in-Library.is ∙ of_library _ _ _ _ _)
