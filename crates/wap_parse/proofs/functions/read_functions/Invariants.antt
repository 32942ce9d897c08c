use Rattle.std.proofs.Common.{length}
use Rattle.wap_grammar.specs.reading.TokenReading.{items_at}
use Rattle.wap_grammar.specs.reading.Statements.{statement_at}
use Rattle.wap_grammar.specs.reading.Programs.{next_function}
use Rattle.wap_parse.proofs.ExpressionsLemmas.Loops.{Continues}
use Rattle.wap_parse.proofs.functions.read_functions.Given as goal

abbrev pub invariant-loop : goal.invariant-loop
invariant-loop l =
    Continues (next_function l.src (statement_at l.src l.levels)) (length l.lexemes) l.counter
    l.functions l.rest
    (items_at (next_function l.src (statement_at l.src l.levels)) l.lexemes)
