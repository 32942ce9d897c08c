use Rattle.std.proofs.Common.{length, ◌∷◌, Option, Ok, ap, ◌∙◌}
use Rattle.wap_grammar.specs.declared.program.program.Id.{Id}
use Rattle.wap_grammar.specs.reading.TokenReading.{told, id_at, items_at}
use Rattle.wap_grammar.specs.reading.Statements.{next_listed}
use Rattle.wap_parse.proofs.ExpressionsLemmas.Loops.{begins_with, another}
use Rattle.wap_parse.proofs.functions.read_other_names.Goals as goal

pub loop-init : goal.loop-init
loop-init c =
    begins_with (next_listed (id_at c.args.src.now)) c.args.first c.in_ok-names.names
    c.args.lexemes.now c.in_ok-names.ensures

pub loop-preserved : goal.loop-preserved
loop-preserved c =
    let next = next_listed (id_at c.args.src.now) in
    let first = c.in_ok-name.ensures
    ∙ ap (λ (item : Option Id). Ok (item, c.in_ok-name.behind.now)) c.in-Some.is in
    rw c.in_ok-add-in-Some.ensures.ok
    (another next (length c.args.lexemes.now) c.loop.counter c.loop.names c.loop.rest.now
    (told (λ others. c.args.first ∷ others) (items_at next c.args.lexemes.now))
    c.in-Some.name c.in_ok-name.behind.now c.loop-test.true first c.loop.invariant)
