-- What the fragment of a URL calls: a function by its name, and its arguments by literals (WAP-193,
-- section 8.3). That U+0020 is the only blank, that no comment stands in a call, and that a sign
-- stands directly before an integer, and before nothing else, is this project's own.
use Rattle.std.specs.Prelude.{◌≡◌, ℕ, ◌-◌, Bool, true, ◌&&◌, ◌==◌, List, [], ◌∷◌, take, drop}
use Rattle.std.specs.Prelude.{Some, encode_utf8_all}
use Rattle.std.specs.List.{list_all}
use Rattle.wap_base.specs.Ascii.{space}
use Rattle.wap_value.specs.declared.value.Value.{Value}
use Rattle.wap_value.specs.declared.value.Value.TheVariants as value
use Rattle.wap_value.specs.declared.operator.BinOp.{BinOp}
use Rattle.wap_value.specs.declared.operator.UnOp.{UnOp}
use Rattle.wap_value.specs.Unary.{unary_of}
use Rattle.wap_grammar.specs.declared.program.program.Span.{Span}
use Rattle.wap_grammar.specs.declared.program.expression.Literal.{Literal}
use Rattle.wap_grammar.specs.declared.program.expression.Literal.TheVariants as lit
use Rattle.wap_lex.specs.declared.token.Token.{Token}
use Rattle.wap_lex.specs.Tokens.{Lexes}
use Rattle.wap_grammar.specs.declared.lexeme.Lexeme.{Lexeme}
use Rattle.wap_grammar.specs.declared.word.Word.{Word}
use Rattle.wap_grammar.specs.declared.word.Word.TheVariants as word
use Rattle.wap_grammar.specs.declared.word.Sign.TheVariants.{Open, Close}
use Rattle.wap_grammar.specs.Lexemes.{text_in, lexemes_of, sign_of}
use Rattle.wap_grammar.specs.Values.{literal_of}
use Rattle.wap_grammar.specs.Spellings.{token, name, sign, AreListed}
use Rattle.wap_parse.specs.declared.invocation.invocation.Invocation.{Invocation}

-- the value that a literal is: a float has none, and is invalid
abbrev pub value_of : Literal → Value
value_of (lit.Int n) = value.Int n
value_of lit.Float = value.Invalid
value_of (lit.Str text) = value.Str text
value_of (lit.Bool b) = value.Bool b
value_of lit.Invalid = value.Invalid

-- an argument: a literal, or an integer with its sign, which ends where the integer begins
pub data IsArgument (src : List ℕ) : List Lexeme → Value → List Lexeme → Type 0 where
  literal : (w : Word) (span : Span) (x : List Lexeme) (l : Literal) →
      literal_of src span w ≡ Some l →
      IsArgument src (token w span ∷ x) (value_of l) x
  signed : (o : BinOp) (op : UnOp) (before span : Span) (x : List Lexeme) (l : Literal) →
      sign_of o ≡ Some op → before.to ≡ span.from →
      literal_of src span word.Int ≡ Some l →
      IsArgument src (token (word.Operator o) before ∷ token word.Int span ∷ x)
      (unary_of op (value_of l)) x

-- arguments with commas between them, and the parenthesis after them
pub data AreArguments (src : List ℕ) : List Lexeme → List Value → List Lexeme → Type 0 where
  none : (right : Span) (x : List Lexeme) → AreArguments src (sign Close right ∷ x) [] x
  some : (right : Span) (x y : List Lexeme) (values : List Value) →
      AreListed (IsArgument src) x values (sign Close right ∷ y) →
      AreArguments src x values y

-- the tokens of bytes spell a call: a name, and arguments in parentheses
pub data SpellsCall (src : List ℕ) : List Lexeme → Invocation → Type 0 where
  call : (f left : Span) (x : List Lexeme) (values : List Value) → AreArguments src x values [] →
      SpellsCall src (name f ∷ sign Open left ∷ x)
      (record { function = text_in src f; arguments = values })

-- no byte is other than U+0020
abbrev pub are_blanks : List ℕ → Bool
are_blanks = list_all (λ c. c == space)

-- from a place on, what stands outside the tokens are blanks
abbrev pub is_spaced : List ℕ → ℕ → List Token → Bool
is_spaced src at [] = are_blanks (drop at src)
is_spaced src at (first ∷ rest) =
    are_blanks (take (first.from - at) (drop at src)) && is_spaced src first.to rest

-- the fragment is a call: the bytes of its UTF-8 have tokens as those of a source have, with blanks
-- alone around them, and they spell it
pub record IsCall (fragment : List ℕ) (called : Invocation) : Type 0 where
  pub tokens : List Token
  pub lexed : Lexes 0 (encode_utf8_all fragment) tokens
  pub spaced : is_spaced (encode_utf8_all fragment) 0 tokens ≡ true
  pub spelled : SpellsCall (encode_utf8_all fragment)
      (lexemes_of (encode_utf8_all fragment) tokens) called
