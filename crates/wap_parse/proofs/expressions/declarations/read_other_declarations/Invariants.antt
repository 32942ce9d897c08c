use Rattle.std.proofs.Common.{◌∷◌, length}
use Rattle.wap_grammar.specs.reading.TokenReading.{told, items_at}
use Rattle.wap_grammar.specs.reading.Expressions.{expression_at}
use Rattle.wap_grammar.specs.reading.Statements.{next_listed, declaration_at}
use Rattle.wap_parse.proofs.ExpressionsLemmas.Loops.{Continues}
use Rattle.wap_parse.proofs.expressions.declarations.read_other_declarations.Given as goal

abbrev pub invariant-loop : goal.invariant-loop
invariant-loop l =
    Continues (next_listed (declaration_at l.src (expression_at l.src l.levels)))
    (length l.lexemes) l.counter l.declarations l.rest
    (told (λ others. l.fn.first ∷ others)
    (items_at (next_listed (declaration_at l.src (expression_at l.src l.levels))) l.lexemes))
