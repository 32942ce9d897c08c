use Rattle.std.proofs.Common.{◌+◌, ◌*◌, length}
use Rattle.wap_grammar.specs.reading.TokenReading.{items_at}
use Rattle.wap_grammar.specs.reading.Statements.{next_statement, statement_at}
use Rattle.wap_parse.proofs.ExpressionsLemmas.Loops.{Continues}
use Rattle.wap_parse.proofs.statements.+statements.Given as goal

abbrev pub decreases-read_statement : goal.decreases-read_statement
decreases-read_statement l = 16 * l.levels

abbrev pub decreases-read_parts : goal.decreases-read_parts
decreases-read_parts l = 16 * l.levels + 5

abbrev pub decreases-read_if : goal.decreases-read_if
decreases-read_if l = 16 * l.levels + 4

abbrev pub decreases-read_alternative : goal.decreases-read_alternative
decreases-read_alternative l = 16 * l.levels + 2

abbrev pub decreases-read_else : goal.decreases-read_else
decreases-read_else l = 16 * l.levels + 1

abbrev pub decreases-read_arm : goal.decreases-read_arm
decreases-read_arm l = 16 * l.levels + 1

abbrev pub decreases-read_block : goal.decreases-read_block
decreases-read_block l = 16 * l.levels + 3

abbrev pub decreases-read_statements : goal.decreases-read_statements
decreases-read_statements l = 16 * l.levels + 2

abbrev pub decreases-read_while : goal.decreases-read_while
decreases-read_while l = 16 * l.levels + 2

abbrev pub decreases-read_for : goal.decreases-read_for
decreases-read_for l = 16 * l.levels + 2

abbrev pub decreases-read_repeated : goal.decreases-read_repeated
decreases-read_repeated l = 16 * l.levels + 1

abbrev pub invariant-read_statements-loop : goal.invariant-read_statements-loop
invariant-read_statements-loop l =
    Continues (next_statement (statement_at l.src l.levels))
    (length l.lexemes) l.counter l.statements l.rest
    (items_at (next_statement (statement_at l.src l.levels)) l.lexemes)
