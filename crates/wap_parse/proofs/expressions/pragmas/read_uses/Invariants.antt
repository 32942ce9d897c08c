use Rattle.std.proofs.Common.{length}
use Rattle.wap_grammar.specs.reading.TokenReading.{items_at}
use Rattle.wap_grammar.specs.reading.Programs.{next_use}
use Rattle.wap_parse.proofs.ExpressionsLemmas.Loops.{Continues}
use Rattle.wap_parse.proofs.expressions.pragmas.read_uses.Given as goal

abbrev pub invariant-loop : goal.invariant-loop
invariant-loop l =
    Continues (next_use l.src) (length l.lexemes) l.counter l.uses l.rest
    (items_at (next_use l.src) l.lexemes)
