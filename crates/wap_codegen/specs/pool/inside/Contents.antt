-- The literals of constants. This project's own.
use Rattle.wap_grammar.specs.declared.program.expression.Literal.{Literal}
use Rattle.wap_grammar.specs.declared.program.expression.Literal.TheVariants as literal
use Rattle.wap_codegen.specs.declared.pool.content.Content.{Content}
use Rattle.wap_codegen.specs.declared.pool.content.Content.TheVariants as content

-- a constant's literal
abbrev pub literal_of : Content → Literal
literal_of (content.Integer number) = literal.Int number
literal_of (content.Text text) = literal.Str text
