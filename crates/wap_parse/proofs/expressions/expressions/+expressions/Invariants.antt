use Rattle.std.proofs.Common.{◌+◌, ◌-◌, ◌*◌, ◌∷◌, length}
use Rattle.wap_grammar.specs.declared.precedence.TheConstants.{CONDITIONAL, ASSIGNMENT, COMMA}
use Rattle.wap_grammar.specs.reading.TokenReading.{told, items_at}
use Rattle.wap_grammar.specs.reading.Expressions.{next_argument, next_operand}
use Rattle.wap_grammar.specs.reading.Expressions.{part_at, expression_at}
use Rattle.wap_parse.proofs.ExpressionsLemmas.Loops.{Continues}
use Rattle.wap_parse.proofs.expressions.expressions.+expressions.Given as goal

abbrev pub decreases-read_expression : goal.decreases-read_expression
decreases-read_expression l = 1048576 * l.levels

abbrev pub decreases-read_part : goal.decreases-read_part
decreases-read_part l = 1048576 * l.levels + 1024 * l.level + 900

abbrev pub decreases-read_tight : goal.decreases-read_tight
decreases-read_tight l = 1048576 * l.levels + 1024 * l.level + 850

abbrev pub decreases-read_choice : goal.decreases-read_choice
decreases-read_choice l = 1048576 * l.levels + 1024 * CONDITIONAL + 500

abbrev pub decreases-read_value : goal.decreases-read_value
decreases-read_value l = 1048576 * l.levels + 1024 * ASSIGNMENT + 500

abbrev pub decreases-read_sequence : goal.decreases-read_sequence
decreases-read_sequence l = 1048576 * l.levels + 1024 * COMMA + 600

abbrev pub decreases-read_loosest : goal.decreases-read_loosest
decreases-read_loosest l =
    1048576 * l.levels + 1024 * l.level + 600 + 1024 * (l.tighter + 1 - l.level)

abbrev pub decreases-read_looser : goal.decreases-read_looser
decreases-read_looser l = 1048576 * l.levels + 1024 * l.level + 2 * (l.level - l.from) + 1

abbrev pub decreases-read_chain : goal.decreases-read_chain
decreases-read_chain l =
    1048576 * l.levels + 1024 * l.level + 2 * (l.level - l.found) + 2
    + 1024 * (l.tighter + 1 - l.level)

abbrev pub decreases-read_operands : goal.decreases-read_operands
decreases-read_operands l = 1048576 * l.levels + 1024 * l.tighter + 1002

abbrev pub decreases-read_branches : goal.decreases-read_branches
decreases-read_branches l = 1048576 * l.levels + 2

abbrev pub decreases-read_boxed : goal.decreases-read_boxed
decreases-read_boxed l = 1048576 * l.levels + 1

abbrev pub decreases-read_unary : goal.decreases-read_unary
decreases-read_unary l = 1048576 * l.levels + 6

abbrev pub decreases-read_primary : goal.decreases-read_primary
decreases-read_primary l = 1048576 * l.levels + 5

abbrev pub decreases-read_named : goal.decreases-read_named
decreases-read_named l = 1048576 * l.levels + 4

abbrev pub decreases-read_arguments : goal.decreases-read_arguments
decreases-read_arguments l = 1048576 * l.levels + 3

abbrev pub decreases-read_other_arguments : goal.decreases-read_other_arguments
decreases-read_other_arguments l = 1048576 * l.levels + 2

abbrev pub invariant-read_operands-loop : goal.invariant-read_operands-loop
invariant-read_operands-loop l =
    Continues (next_operand l.level (part_at l.src (expression_at l.src l.levels) l.tighter))
    (length l.lexemes) l.counter l.operands l.rest
    (items_at (next_operand l.level (part_at l.src (expression_at l.src l.levels) l.tighter))
    l.lexemes)

abbrev pub invariant-read_other_arguments-loop : goal.invariant-read_other_arguments-loop
invariant-read_other_arguments-loop l =
    Continues (next_argument (expression_at l.src l.levels))
    (length l.lexemes) l.counter l.arguments l.rest
    (told (λ others. l.fn.first ∷ others)
    (items_at (next_argument (expression_at l.src l.levels)) l.lexemes))
