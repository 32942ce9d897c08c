-- What names and literals are in a program (WAP-193, sections 6.1.5 and 6.1.6).
use Rattle.std.specs.Prelude.{ℕ, true, false, nat_le, if◌then◌else◌, List, Option, Some, None, pos}
use Rattle.wap_grammar.specs.declared.program.program.Span.{Span}
use Rattle.wap_grammar.specs.declared.program.program.Id.{Id}
use Rattle.wap_grammar.specs.declared.program.expression.Literal.{Literal}
use Rattle.wap_grammar.specs.declared.program.expression.Literal.TheVariants as lit
use Rattle.wap_grammar.specs.declared.program.expression.Expr.{Expr}
use Rattle.wap_grammar.specs.declared.program.expression.Expr.TheVariants as expr
use Rattle.wap_lex.specs.Numbers.{integer_value, integer_limit}
use Rattle.wap_grammar.specs.declared.callee.Callee.{Callee}
use Rattle.wap_grammar.specs.declared.callee.Callee.TheVariants as callee
use Rattle.wap_grammar.specs.declared.word.Word.{Word}
use Rattle.wap_grammar.specs.declared.word.Word.TheVariants as word
pub use Rattle.wap_grammar.specs.Unescaping.{string_of}
use Rattle.wap_grammar.specs.Lexemes.{text_in}

-- a name has no characters but ASCII's, so its bytes are its characters
abbrev pub id_of : List ℕ → Span → Id
id_of src span = record { name = text_in src span; span = span }

-- the literal that an integer is, if it is in range
abbrev pub integer_of : List ℕ → Option Literal
integer_of text =
    if nat_le (integer_value text) integer_limit then Some (lit.Int (pos
    (integer_value text))) else None

-- the literal that a word is
unfoldable pub literal_of : List ℕ → Span → Word → Option Literal
literal_of src span word.Int = integer_of (text_in src span)
literal_of src span word.Float = Some lit.Float
literal_of src span word.Str = Some (lit.Str (string_of (text_in src span)))
literal_of src span word.True = Some (lit.Bool true)
literal_of src span word.False = Some (lit.Bool false)
literal_of src span word.Invalid = Some lit.Invalid
literal_of src span _ = None

-- a call, by what it names and its arguments
abbrev pub called : Callee → List Expr → Expr
called (callee.Local f) arguments = expr.Call f arguments
called (callee.External unit f) arguments = expr.External unit f arguments
called (callee.Library library f) arguments = expr.Library library f arguments

-- the text that the string in a part of the source stands for
abbrev pub text_of : List ℕ → Span → List ℕ
text_of src span = string_of (text_in src span)
