-- The same by calculation: the call that a fragment is, or none. This project's own.
use Rattle.std.specs.Prelude.{ℕ, Bool, true, false, ◌&&◌, nat_eq, if◌then◌else◌, List, [], ◌∷◌}
use Rattle.std.specs.Prelude.{length, Option, Some, None, Result, Ok, Err, encode_utf8_all}
use Rattle.std.specs.Result.{result_ok}
use Rattle.wap_base.specs.Outcome.{◌>>=◌}
use Rattle.wap_value.specs.declared.value.Value.{Value}
use Rattle.wap_value.specs.declared.operator.UnOp.{UnOp}
use Rattle.wap_value.specs.Unary.{unary_of}
use Rattle.wap_grammar.specs.declared.program.program.Span.{Span}
use Rattle.wap_grammar.specs.declared.program.program.Id.{Id}
use Rattle.wap_grammar.specs.declared.program.expression.Literal.{Literal}
use Rattle.wap_lex.specs.declared.token.Token.{Token}
use Rattle.wap_lex.specs.declared.fault.LexFault.{LexFault}
use Rattle.wap_lex.specs.Calculation.{pieces_at}
use Rattle.wap_grammar.specs.declared.fault.ParseFault.{ParseFault}
use Rattle.wap_grammar.specs.declared.lexeme.Lexeme.{Lexeme}
use Rattle.wap_grammar.specs.declared.word.Word.{Word}
use Rattle.wap_grammar.specs.declared.word.Word.TheVariants as word
use Rattle.wap_grammar.specs.declared.word.Sign.TheVariants.{Open, Close}
use Rattle.wap_grammar.specs.Lexemes.{word_of, lexemes_of, sign_of, is_sign}
use Rattle.wap_grammar.specs.Values.{literal_of}
use Rattle.wap_grammar.specs.reading.TokenReading.{Reading, span_of, after, syntax, told, expect_at}
use Rattle.wap_grammar.specs.reading.TokenReading.{closed, id_at}
use Rattle.wap_grammar.specs.reading.Statements.{listed_at}
use Rattle.wap_parse.specs.declared.invocation.invocation.Invocation.{Invocation}
use Rattle.wap_parse.specs.invocation.Calls.{value_of, is_spaced}

-- the literal that was found first, and the tokens after it
abbrev pub literal_by : List ℕ → List Lexeme → Option Literal → Reading Literal
literal_by src lexemes (Some l) = Ok (l, after lexemes)
literal_by src lexemes None = syntax src lexemes

-- a literal
unfoldable pub literal_at : List ℕ → List Lexeme → Reading Literal
literal_at src lexemes =
    literal_by src lexemes (literal_of src (span_of lexemes) (word_of lexemes))

-- whether a word is an integer
abbrev pub is_integer : Word → Bool
is_integer word.Int = true
is_integer _ = false

-- whether an integer comes first, and begins where a sign ends
abbrev pub is_next : Span → List Lexeme → Bool
is_next before lexemes =
    is_integer (word_of lexemes) && nat_eq before.to (span_of lexemes).from

-- the value of an integer after its sign
unfoldable pub signed_at : List ℕ → UnOp → Span → List Lexeme → Reading Value
signed_at src op before lexemes =
    if is_next before lexemes then told (λ l. unary_of op (value_of l)) (literal_at src lexemes)
    else syntax src lexemes

-- the sign that a word may be
abbrev pub sign_in : Word → Option UnOp
sign_in (word.Operator o) = sign_of o
sign_in _ = None

-- an argument, by the sign that was found first
abbrev pub argument_by : List ℕ → List Lexeme → Option UnOp → Reading Value
argument_by src lexemes (Some op) = signed_at src op (span_of lexemes) (after lexemes)
argument_by src lexemes None = told value_of (literal_at src lexemes)

-- an argument
unfoldable pub argument_at : List ℕ → List Lexeme → Reading Value
argument_at src lexemes = argument_by src lexemes (sign_in (word_of lexemes))

-- arguments, and the parenthesis after them
unfoldable pub arguments_at : List ℕ → List Lexeme → Reading (List Value)
arguments_at src lexemes =
    if is_sign Close (word_of lexemes) then Ok ([], after lexemes) else
    (listed_at (argument_at src) lexemes >>= closed src Close)

-- the call of a name and what was read after it, if no tokens are left
abbrev pub ended : List ℕ → Id → List Value × List Lexeme → Result Invocation ParseFault
ended src f (values, []) = Ok (record { function = f.name; arguments = values })
ended src f (values, first ∷ rest) = syntax src (first ∷ rest)

-- a call
unfoldable pub call_at : List ℕ → List Lexeme → Result Invocation ParseFault
call_at src lexemes =
    id_at src lexemes >>= λ f.
    expect_at src Open f.1 >>= λ rest.
    arguments_at src rest >>= ended src f.0

-- the call that tokens spell, where there are some and blanks alone stand around them
abbrev pub spelled_by : List ℕ → Result (List Token) LexFault → Option Invocation
spelled_by src (Ok tokens) =
    if is_spaced src 0 tokens then result_ok (call_at src (lexemes_of src tokens)) else None
spelled_by src (Err fault) = None

-- the call that a fragment is
unfoldable pub call_of : List ℕ → Option Invocation
call_of fragment =
    let src = encode_utf8_all fragment in spelled_by src (pieces_at (length src) 0 src)
