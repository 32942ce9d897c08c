use Rattle.std.proofs.Common.{◌≡◌, true, false, Ok, Err, sym, ap, ◌∙◌}
use Rattle.std.proofs.lemmas.Result.{err_from_is_err_and}
use Rattle.wap_grammar.specs.declared.program.expression.Expr.{Expr}
use Rattle.wap_grammar.specs.declared.fault.ParseFault.{ParseFault}
use Rattle.wap_grammar.specs.declared.word.Word.{Word}
use Rattle.wap_grammar.specs.Lexemes.{word_of}
use Rattle.wap_parse.proofs.ExpressionsLemmas.Loops.{at_exit}
use Rattle.wap_parse.specs.invocation.Calculation.{literal_at}
use Rattle.wap_parse.specs.invocation.inside.Literals.{is_literal}
use Rattle.wap_parse.proofs.InvocationLemmas.LiteralReading.{literal_is_read, no_literal}
use Rattle.wap_parse.proofs.InvocationLemmas.LiteralReading.{literal_told, fault_told, other_told}
use Rattle.wap_parse.proofs.invocation.literals.read_literal.Goals as goal

pub returns-then-not-is_literal : goal.returns-then-not-is_literal
returns-then-not-is_literal c = λ told.
    let so : c.is_literal.result ≡ false = cc in
    let none : is_literal (word_of c.args.lexemes.now) ≡ false =
    sym (ap (λ (w : Word). is_literal w) c.word_of.ensures) ∙ (sym c.is_literal.ensures ∙ so) in
    no_literal c.args.src.now c.args.lexemes.now none
    ∙ ap (λ (fault : ParseFault). Err fault) (sym c.syntax_fault.ensures)

pub returns-in_err-value : goal.returns-in_err-value
returns-in_err-value c =
    let src = c.args.src.now in
    let a = c.args.lexemes.now in
    let so : c.is_literal.result ≡ true = cc in
    let some : is_literal (word_of a) ≡ true =
    sym (ap (λ (w : Word). is_literal w) c.word_of.ensures) ∙ (sym c.is_literal.ensures ∙ so) in
    let fault = c.in_err-value.field-0.0 in
    let left = err_from_is_err_and c.from_residual.result c.from_residual.ensures.1 in
    at_exit (λ read. (read.0, read.1.now)) c.from_residual.result fault (literal_at src a)
    (left.1 ∙ ap Err left.2)
    (λ other. fault_told (literal_at src a) fault
    (sym (literal_is_read src a some) ∙ c.in_err-value.ensures other))

pub returns-in_default : goal.returns-in_default
returns-in_default c = λ told.
    let src = c.args.src.now in
    let a = c.args.lexemes.now in
    let so : c.is_literal.result ≡ true = cc in
    let some : is_literal (word_of a) ≡ true =
    sym (ap (λ (w : Word). is_literal w) c.word_of.ensures) ∙ (sym c.is_literal.ensures ∙ so) in
    let found = other_told (literal_at src a) c.in_ok-value.value c.in_ok-value.rest.now
    (sym (literal_is_read src a some) ∙ c.in_ok-value.ensures) in
    absurd (c.in_default.not-Lit found.0 found.1)

pub returns : goal.returns
returns c =
    let src = c.args.src.now in
    let a = c.args.lexemes.now in
    let so : c.is_literal.result ≡ true = cc in
    let some : is_literal (word_of a) ≡ true =
    sym (ap (λ (w : Word). is_literal w) c.word_of.ensures) ∙ (sym c.is_literal.ensures ∙ so) in
    literal_told (literal_at src a) c.in-Lit.literal c.in_ok-value.rest.now
    (sym (literal_is_read src a some)
    ∙ (c.in_ok-value.ensures
    ∙ ap (λ (value : Expr). Ok (value, c.in_ok-value.rest.now)) c.in-Lit.is))
