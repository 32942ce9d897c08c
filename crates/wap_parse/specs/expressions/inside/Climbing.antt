-- Operators of two operands after an expression, from tighter to looser ones. This project's own.
use Rattle.std.specs.Prelude.{ℕ, zero, suc, nat_lt, nat_le, ◌&&◌, if◌then◌else◌}
use Rattle.std.specs.Prelude.{List, Option, Some, None, Ok}
use Rattle.wap_base.specs.Outcome.{◌>>=◌}
use Rattle.wap_value.specs.declared.operator.BinOp.{BinOp}
use Rattle.wap_grammar.specs.declared.program.expression.Expr.{Expr}
use Rattle.wap_grammar.specs.declared.lexeme.Lexeme.{Lexeme}
use Rattle.wap_grammar.specs.declared.word.Word.{Word}
use Rattle.wap_grammar.specs.declared.word.Word.TheVariants as word
use Rattle.wap_grammar.specs.Lexemes.{precedence}
use Rattle.wap_grammar.specs.reading.TokenReading.{Reading, told, items_at}
use Rattle.wap_grammar.specs.reading.Expressions.{Reader, chained, next_operand}

-- the level of the operator that a word is, if it is looser than one level and no looser than
-- another
abbrev pub looser_of : ℕ → ℕ → Word → Option ℕ
looser_of from level (word.Operator o) =
    if nat_lt from (precedence o) && nat_le (precedence o) level then Some (precedence o) else None
looser_of from level _ = None

-- operands of the next looser level than this one, after the first of them
abbrev pub grown_at : Reader → ℕ → Expr × List Lexeme → Reading Expr
grown_at read level x =
    told (chained x.0) (items_at (next_operand (suc level) (read level)) x.1)

-- operands of each level looser than one, up to another
unfoldable pub climbed_at : Reader → ℕ → ℕ → Expr × List Lexeme → Reading Expr
climbed_at read from zero x = Ok x
climbed_at read from (suc level) x =
    if nat_lt from (suc level) then (climbed_at read from level x >>= grown_at read level) else Ok x

abbrev pub climbed_after : Reader → ℕ → ℕ → Reading Expr → Reading Expr
climbed_after read from level first = first >>= climbed_at read from level

-- the same after the operands of a level
abbrev pub chained_after : Reader → ℕ → ℕ → Expr → Reading (List (BinOp × Expr)) → Reading Expr
chained_after read level most first others =
    others >>= λ rest. climbed_at read level most (chained first rest.0, rest.1)
