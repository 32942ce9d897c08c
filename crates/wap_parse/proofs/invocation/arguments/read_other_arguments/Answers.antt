use Rattle.std.proofs.Common.{length, ◌∷◌, Option, Ok, ap, ◌∙◌}
use Rattle.wap_value.specs.declared.value.Value.{Value}
use Rattle.wap_grammar.specs.reading.TokenReading.{told, items_at}
use Rattle.wap_grammar.specs.reading.Statements.{next_listed}
use Rattle.wap_parse.proofs.ExpressionsLemmas.Loops.{begins_with, another}
use Rattle.wap_parse.specs.invocation.Calculation.{argument_at}
use Rattle.wap_parse.proofs.invocation.arguments.read_other_arguments.Goals as goal

pub loop-init : goal.loop-init
loop-init c =
    begins_with (next_listed (argument_at c.args.src.now)) c.args.first
    c.in_ok-arguments.arguments c.args.lexemes.now c.in_ok-arguments.ensures

pub loop-preserved : goal.loop-preserved
loop-preserved c =
    let next = next_listed (argument_at c.args.src.now) in
    let first = c.in_ok-argument.ensures
    ∙ ap (λ (item : Option Value). Ok (item, c.in_ok-argument.behind.now)) c.in-Some.is in
    rw c.in_ok-add-in-Some.ensures.ok
    (another next (length c.args.lexemes.now) c.loop.counter c.loop.arguments c.loop.rest.now
    (told (λ others. c.args.first ∷ others) (items_at next c.args.lexemes.now))
    c.in-Some.argument c.in_ok-argument.behind.now c.loop-test.true first c.loop.invariant)
