use Rattle.std.proofs.Common.{◌∷◌, length}
use Rattle.wap_grammar.specs.reading.TokenReading.{told, items_at}
use Rattle.wap_grammar.specs.reading.Statements.{next_listed}
use Rattle.wap_parse.proofs.ExpressionsLemmas.Loops.{Continues}
use Rattle.wap_parse.specs.invocation.Calculation.{argument_at}
use Rattle.wap_parse.proofs.invocation.arguments.read_other_arguments.Given as goal

abbrev pub invariant-loop : goal.invariant-loop
invariant-loop l =
    Continues (next_listed (argument_at l.src)) (length l.lexemes) l.counter l.arguments l.rest
    (told (λ others. l.fn.first ∷ others)
    (items_at (next_listed (argument_at l.src)) l.lexemes))
