use Rattle.std.proofs.Common.{◌≡◌, true, false, List, length, ◌∷◌, Option, Err, ap, ◌∙◌}
use Rattle.std.proofs.lemmas.Result.{err_from_is_err_and}
use Rattle.wap_grammar.specs.declared.program.expression.Expr.{Expr}
use Rattle.wap_grammar.specs.declared.program.program.Id.{Id}
use Rattle.wap_grammar.specs.Lexemes.{word_of, is_comma}
use Rattle.wap_grammar.specs.reading.TokenReading.{Reading, after, told, items_at}
use Rattle.wap_grammar.specs.reading.Expressions.{expression_at}
use Rattle.wap_grammar.specs.reading.Statements.{next_listed, declaration_at}
use Rattle.wap_parse.proofs.ExpressionsLemmas.Loops.{begins_with, another, no_other, at_fault}
use Rattle.wap_parse.proofs.ExpressionsLemmas.Loops.{at_exit}
use Rattle.wap_parse.proofs.ExpressionsLemmas.Nexts.{listed_if, found, failed, missing}
use Rattle.wap_parse.proofs.expressions.declarations.read_other_declarations.Goals as goal

pub loop-init : goal.loop-init
loop-init c =
    begins_with (next_listed (declaration_at c.args.src.now
    (expression_at c.args.src.now c.args.levels))) c.args.first c.in_ok-declarations.declarations
    c.args.lexemes.now c.in_ok-declarations.ensures

pub loop-preserved : goal.loop-preserved
loop-preserved c =
    let item = declaration_at c.args.src.now (expression_at c.args.src.now c.args.levels) in
    let next = next_listed item in
    let whole : Reading (List (Id × Option Expr)) = told (λ others. c.args.first ∷ others)
    (items_at next c.args.lexemes.now) in
    let held : c.is_comma.result ≡ true = cc in
    let there : c.after.result.now ≡ after c.loop.rest.now = cc in
    let first = listed_if item c.loop.rest.now ∙ found item c.loop.rest.now
    (is_comma (word_of c.loop.rest.now)) c.is_comma.result c.is_comma.ensures c.after.result.now
    c.in_ok-declaration.declaration c.in_ok-declaration.behind.now held there
    c.in_ok-declaration.ensures in
    rw c.in_ok-add.ensures.ok
    (another next (length c.args.lexemes.now) c.loop.counter c.loop.declarations c.loop.rest.now
    whole c.in_ok-declaration.declaration c.in_ok-declaration.behind.now c.loop-test.true first
    c.loop.invariant)

pub returns-then-not-is_comma : goal.returns-then-not-is_comma
returns-then-not-is_comma c =
    let item = declaration_at c.args.src.now (expression_at c.args.src.now c.args.levels) in
    let next = next_listed item in
    let whole : Reading (List (Id × Option Expr)) = told (λ others. c.args.first ∷ others)
    (items_at next c.args.lexemes.now) in
    let held : c.is_comma.result ≡ false = cc in
    let none = listed_if item c.loop.rest.now ∙ missing item c.loop.rest.now
    (is_comma (word_of c.loop.rest.now)) c.is_comma.result c.is_comma.ensures held in
    no_other next (length c.args.lexemes.now) c.loop.counter c.loop.declarations c.loop.rest.now
    whole c.loop.rest.now c.loop-test.true none c.loop.invariant

pub returns-in_err-declaration : goal.returns-in_err-declaration
returns-in_err-declaration c =
    let item = declaration_at c.args.src.now (expression_at c.args.src.now c.args.levels) in
    let next = next_listed item in
    let whole : Reading (List (Id × Option Expr)) = told (λ others. c.args.first ∷ others)
    (items_at next c.args.lexemes.now) in
    let held : c.is_comma.result ≡ true = cc in
    let there : c.after.result.now ≡ after c.loop.rest.now = cc in
    let fault = c.in_err-declaration.field-0.0 in
    let left = err_from_is_err_and c.from_residual-in_err-declaration.result
    c.from_residual-in_err-declaration.ensures.1 in
    at_exit (λ read. (read.0, read.1.now)) c.from_residual-in_err-declaration.result fault whole
    (left.1 ∙ ap Err left.2)
    (λ other. at_fault next (length c.args.lexemes.now) c.loop.counter c.loop.declarations
    c.loop.rest.now whole fault c.loop-test.true
    (listed_if item c.loop.rest.now ∙ failed item c.loop.rest.now
    (is_comma (word_of c.loop.rest.now)) c.is_comma.result c.is_comma.ensures c.after.result.now
    fault
    held there (c.in_err-declaration.ensures other)) c.loop.invariant)
