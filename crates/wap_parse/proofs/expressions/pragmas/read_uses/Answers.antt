use Rattle.std.proofs.Common.{◌≡◌, true, false, List, length, Err, refl, ap, ◌∙◌}
use Rattle.std.proofs.lemmas.Result.{err_from_is_err_and}
use Rattle.wap_grammar.specs.declared.program.program.Use.{Use}
use Rattle.wap_grammar.specs.declared.word.Sign.TheVariants as sign
use Rattle.wap_grammar.specs.Lexemes.{word_of, is_sign}
use Rattle.wap_grammar.specs.reading.TokenReading.{Reading, span_of, after, items_at}
use Rattle.wap_grammar.specs.reading.Programs.{next_use, use_at}
use Rattle.wap_parse.proofs.ExpressionsLemmas.Loops.{begins, another, no_other, at_fault, at_exit}
use Rattle.wap_parse.proofs.ExpressionsLemmas.Nexts.{use_if, found, failed, missing}
use Rattle.wap_parse.proofs.expressions.pragmas.read_uses.Goals as goal

pub loop-init : goal.loop-init
loop-init c =
    begins (next_use c.args.src.now) c.new-uses.result c.args.lexemes.now c.new-uses.ensures

pub loop-preserved : goal.loop-preserved
loop-preserved c =
    let item = use_at c.args.src.now c.span_of.result in
    let next = next_use c.args.src.now in
    let whole : Reading (List Use) = items_at next c.args.lexemes.now in
    let held : c.is_sign.result ≡ true = cc in
    let at : c.span_of.result ≡ span_of c.loop.rest.now = cc in
    let there : c.after.result.now ≡ after c.loop.rest.now = cc in
    let first = use_if c.args.src.now c.span_of.result c.loop.rest.now at ∙ found item
    c.loop.rest.now
    (is_sign sign.Use (word_of c.loop.rest.now)) c.is_sign.result c.is_sign.ensures
    c.after.result.now
    c.in_ok-pragma.pragma c.in_ok-pragma.behind.now held there c.in_ok-pragma.ensures in
    rw c.in_ok-add.ensures.ok
    (another next (length c.args.lexemes.now) c.loop.counter c.loop.uses c.loop.rest.now
    whole c.in_ok-pragma.pragma c.in_ok-pragma.behind.now c.loop-test.true first
    c.loop.invariant)

pub returns-then-not-is_sign : goal.returns-then-not-is_sign
returns-then-not-is_sign c =
    let item = use_at c.args.src.now (span_of c.loop.rest.now) in
    let next = next_use c.args.src.now in
    let whole : Reading (List Use) = items_at next c.args.lexemes.now in
    let held : c.is_sign.result ≡ false = cc in
    let none = use_if c.args.src.now (span_of c.loop.rest.now) c.loop.rest.now refl ∙ missing
    item c.loop.rest.now
    (is_sign sign.Use (word_of c.loop.rest.now)) c.is_sign.result c.is_sign.ensures held in
    no_other next (length c.args.lexemes.now) c.loop.counter c.loop.uses c.loop.rest.now
    whole c.loop.rest.now c.loop-test.true none c.loop.invariant

pub returns-in_err-pragma : goal.returns-in_err-pragma
returns-in_err-pragma c =
    let item = use_at c.args.src.now c.span_of.result in
    let next = next_use c.args.src.now in
    let whole : Reading (List Use) = items_at next c.args.lexemes.now in
    let held : c.is_sign.result ≡ true = cc in
    let at : c.span_of.result ≡ span_of c.loop.rest.now = cc in
    let there : c.after.result.now ≡ after c.loop.rest.now = cc in
    let fault = c.in_err-pragma.field-0.0 in
    let left = err_from_is_err_and c.from_residual.result c.from_residual.ensures.1 in
    at_exit (λ read. (read.0, read.1.now)) c.from_residual.result fault whole
    (left.1 ∙ ap Err left.2)
    (λ other. at_fault next (length c.args.lexemes.now) c.loop.counter c.loop.uses
    c.loop.rest.now whole fault c.loop-test.true
    (use_if c.args.src.now c.span_of.result c.loop.rest.now at ∙ failed item c.loop.rest.now
    (is_sign sign.Use (word_of c.loop.rest.now)) c.is_sign.result c.is_sign.ensures
    c.after.result.now fault
    held there (c.in_err-pragma.ensures other)) c.loop.invariant)
