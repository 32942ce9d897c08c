-- What stands in the parentheses of `for`. This project's own.
use Rattle.std.specs.Prelude.{ℕ, List, Option}
use Rattle.wap_base.specs.Outcome.{◌>>=◌}
use Rattle.wap_grammar.specs.declared.program.expression.Expr.{Expr}
use Rattle.wap_grammar.specs.declared.program.statement.Stmt.{Stmt}
use Rattle.wap_grammar.specs.declared.lexeme.Lexeme.{Lexeme}
use Rattle.wap_grammar.specs.declared.word.Sign.TheVariants as sign
use Rattle.wap_grammar.specs.reading.TokenReading.{Reading, told, expect_at}
use Rattle.wap_grammar.specs.reading.Expressions.{Reader}
use Rattle.wap_grammar.specs.reading.Statements.{optional_at, initial_at}

-- the condition, and what is done after each turn
unfoldable pub limits_at : List ℕ → Reader → List Lexeme → Reading (Option Expr × Option Expr)
limits_at src inner lexemes =
    optional_at src inner sign.Semicolon lexemes >>= λ c. told (λ update. (c.0, update))
    (optional_at src inner sign.Close c.1)

-- what is done first, and the limits
unfoldable pub turns_at : List ℕ → Reader → List Lexeme →
    Reading (Stmt × (Option Expr × Option Expr))
turns_at src inner lexemes =
    initial_at src inner lexemes >>= λ first. told (λ limits. (first.0, limits))
    (limits_at src inner first.1)

-- the same in parentheses, after the word `for`
unfoldable pub header_at : List ℕ → Reader → List Lexeme →
    Reading (Stmt × (Option Expr × Option Expr))
header_at src inner lexemes = expect_at src sign.Open lexemes >>= λ rest. turns_at src inner rest
