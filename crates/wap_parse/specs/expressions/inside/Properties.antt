-- A property, and the `;` after it. This project's own.
use Rattle.std.specs.Prelude.{ℕ, List, Option}
use Rattle.wap_base.specs.Outcome.{◌>>=◌}
use Rattle.wap_grammar.specs.declared.lexeme.Lexeme.{Lexeme}
use Rattle.wap_grammar.specs.declared.word.Sign.TheVariants as sign
use Rattle.wap_grammar.specs.reading.TokenReading.{Reading, closed}
use Rattle.wap_grammar.specs.reading.Programs.{property_at}

abbrev pub ended_at : List ℕ → List Lexeme → Reading (List ℕ × List ℕ × Option (List ℕ))
ended_at src lexemes = property_at src lexemes >>= closed src sign.Semicolon
