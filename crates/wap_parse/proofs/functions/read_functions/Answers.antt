use Rattle.std.proofs.Common.{length, Option, Ok, ap, ◌∙◌}
use Rattle.wap_grammar.specs.declared.program.program.Function.{Function}
use Rattle.wap_grammar.specs.reading.TokenReading.{items_at}
use Rattle.wap_grammar.specs.reading.Statements.{statement_at}
use Rattle.wap_grammar.specs.reading.Programs.{next_function}
use Rattle.wap_parse.proofs.ExpressionsLemmas.Loops.{begins, another}
use Rattle.wap_parse.proofs.functions.read_functions.Goals as goal

pub loop-init : goal.loop-init
loop-init c =
    begins (next_function c.args.src.now
    (statement_at c.args.src.now c.args.levels)) c.new-functions.result c.args.lexemes.now
    c.new-functions.ensures

pub loop-preserved : goal.loop-preserved
loop-preserved c =
    let next = next_function c.args.src.now
    (statement_at c.args.src.now c.args.levels) in
    let first = c.in_ok-function.ensures
    ∙ ap (λ (item : Option Function). Ok (item, c.in_ok-function.behind.now)) c.in-Some.is in
    rw c.in_ok-add-in-Some.ensures.ok
    (another next (length c.args.lexemes.now) c.loop.counter c.loop.functions c.loop.rest.now
    (items_at next c.args.lexemes.now) c.in-Some.function c.in_ok-function.behind.now
    c.loop-test.true first c.loop.invariant)
