-- What tokens are to the grammar (WAP-193, section 6.1).
use Rattle.std.specs.Prelude.{ℕ, ◌-◌, Bool, true, false, nat_eq, if◌then◌else◌, List, []}
use Rattle.std.specs.Prelude.{◌∷◌, map, take, drop, unwrap_or, Option, Some, None, codes}
use Rattle.std.specs.Map.{lookup}
use Rattle.wap_base.specs.Texts.{is_same_text}
use Rattle.wap_value.specs.declared.operator.BinOp.{BinOp}
use Rattle.wap_value.specs.declared.operator.BinOp.TheVariants as op
use Rattle.wap_value.specs.declared.operator.UnOp.{UnOp}
use Rattle.wap_value.specs.declared.operator.UnOp.TheVariants as un
use Rattle.wap_grammar.specs.declared.program.program.Span.{Span}
use Rattle.wap_lex.specs.declared.token.Kind.{Kind}
use Rattle.wap_lex.specs.declared.token.Kind.TheVariants as kind
use Rattle.wap_lex.specs.declared.token.Token.{Token}
use Rattle.wap_grammar.specs.declared.precedence.TheConstants.{COMMA}
use Rattle.wap_grammar.specs.declared.lexeme.Lexeme.{Lexeme}
use Rattle.wap_grammar.specs.declared.word.Word.{Word}
use Rattle.wap_grammar.specs.declared.word.Word.TheVariants as word
use Rattle.wap_grammar.specs.declared.word.Sign.{Sign}
use Rattle.wap_grammar.specs.declared.word.Sign.TheVariants as sign
use Rattle.wap_grammar.specs.declared.start.Start.{Start}
use Rattle.wap_grammar.specs.declared.start.Start.TheVariants as start
use Rattle.wap_grammar.specs.contracts.word.Sign as signs
use denote.Enum.Bare.{sameb}

-- each mark, and each reserved word that stands in a program, and what it is (WAP-193, sections
-- 6.1.7 and 7.2)
unfoldable pub word_rows : List (List ℕ × Word)
word_rows =
    (codes ";", word.Sign sign.Semicolon) ∷
    (codes "(", word.Sign sign.Open) ∷
    (codes ")", word.Sign sign.Close) ∷
    (codes "{", word.Sign sign.OpenBlock) ∷
    (codes "}", word.Sign sign.CloseBlock) ∷
    (codes "=", word.Assign None) ∷
    (codes ",", word.Operator op.Comma) ∷
    (codes "+", word.Operator op.Add) ∷
    (codes "var", word.Sign sign.Var) ∷
    (codes "if", word.Sign sign.If) ∷
    (codes "return", word.Sign sign.Return) ∷
    (codes "<", word.Operator op.Lt) ∷
    (codes "==", word.Operator op.Eq) ∷
    (codes "else", word.Sign sign.Else) ∷
    (codes "for", word.Sign sign.For) ∷
    (codes "function", word.Sign sign.Function) ∷
    (codes "++", word.Step true) ∷
    (codes "+=", word.Assign (Some op.Add)) ∷
    (codes "extern", word.Sign sign.Extern) ∷
    (codes ".", word.Sign sign.Dot) ∷
    (codes "-", word.Operator op.Sub) ∷
    (codes "*", word.Operator op.Mul) ∷
    (codes "while", word.Sign sign.While) ∷
    (codes "&&", word.Operator op.And) ∷
    (codes "||", word.Operator op.Or) ∷
    (codes "!", word.Unary un.Not) ∷
    (codes "!=", word.Operator op.Ne) ∷
    (codes ">", word.Operator op.Gt) ∷
    (codes "<=", word.Operator op.Le) ∷
    (codes ">=", word.Operator op.Ge) ∷
    (codes "%", word.Operator op.Rem) ∷
    (codes "/", word.Operator op.Div) ∷
    (codes "true", word.True) ∷
    (codes "false", word.False) ∷
    (codes "?", word.Sign sign.Question) ∷
    (codes ":", word.Sign sign.Colon) ∷
    (codes "#", word.Sign sign.Hash) ∷
    (codes "--", word.Step false) ∷
    (codes "-=", word.Assign (Some op.Sub)) ∷
    (codes "break", word.Sign sign.Break) ∷
    (codes "div", word.Operator op.IDiv) ∷
    (codes "continue", word.Sign sign.Continue) ∷
    (codes "isvalid", word.Unary un.IsValid) ∷
    (codes "invalid", word.Invalid) ∷
    (codes "typeof", word.Unary un.TypeOf) ∷
    (codes "~", word.Unary un.BitNot) ∷
    (codes "<<", word.Operator op.Shl) ∷
    (codes ">>", word.Operator op.Shr) ∷
    (codes ">>>", word.Operator op.UShr) ∷
    (codes "&", word.Operator op.BitAnd) ∷
    (codes "^", word.Operator op.BitXor) ∷
    (codes "|", word.Operator op.BitOr) ∷
    (codes "*=", word.Assign (Some op.Mul)) ∷
    (codes "/=", word.Assign (Some op.Div)) ∷
    (codes "%=", word.Assign (Some op.Rem)) ∷
    (codes "&=", word.Assign (Some op.BitAnd)) ∷
    (codes "^=", word.Assign (Some op.BitXor)) ∷
    (codes "|=", word.Assign (Some op.BitOr)) ∷
    (codes "<<=", word.Assign (Some op.Shl)) ∷
    (codes ">>=", word.Assign (Some op.Shr)) ∷
    (codes ">>>=", word.Assign (Some op.UShr)) ∷
    (codes "div=", word.Assign (Some op.IDiv)) ∷
    (codes "access", word.Sign sign.Access) ∷
    (codes "agent", word.Sign sign.Agent) ∷
    (codes "domain", word.Sign sign.Domain) ∷
    (codes "equiv", word.Sign sign.Equiv) ∷
    (codes "http", word.Sign sign.Http) ∷
    (codes "meta", word.Sign sign.Meta) ∷
    (codes "name", word.Sign sign.NameWord) ∷
    (codes "path", word.Sign sign.Path) ∷
    (codes "url", word.Sign sign.Url) ∷
    (codes "use", word.Sign sign.Use) ∷
    (codes "user", word.Sign sign.User) ∷
    []

-- what a mark or reserved word is; one that stands in no program is unused
unfoldable pub word_spelled : List ℕ → Word
word_spelled text = unwrap_or (lookup (is_same_text text) word_rows) word.Unused

-- the bytes of a part of the source
abbrev pub text_in : List ℕ → Span → List ℕ
text_in src span = take (span.to - span.from) (drop span.from src)

-- what a token of a kind and with such bytes is to the grammar
abbrev pub word_of_kind : Kind → List ℕ → Word
word_of_kind kind.Name text = word.Name
word_of_kind kind.Reserved text = word_spelled text
word_of_kind kind.Int text = word.Int
word_of_kind kind.Float text = word.Float
word_of_kind kind.Str text = word.Str
word_of_kind kind.Mark text = word_spelled text

-- a token as the grammar sees it
abbrev pub lexeme_of : List ℕ → Token → Lexeme
lexeme_of src token =
    let span : Span = record { from = token.from; to = token.to } in
    record { word = word_of_kind token.kind (text_in src span); span = span }

-- the tokens of a source as the grammar sees them
abbrev pub lexemes_of : List ℕ → List Token → List Lexeme
lexemes_of src = map (lexeme_of src)

-- what the first token is
abbrev pub word_of : List Lexeme → Word
word_of [] = word.End
word_of (first ∷ rest) = first.word

-- ---- precedence (WAP-193, section 6.3.12), 1 the tightest of the operators of two operands

-- the level of an operator
abbrev pub precedence : BinOp → ℕ
precedence op.Mul = 1
precedence op.Div = 1
precedence op.IDiv = 1
precedence op.Rem = 1
precedence op.Add = 2
precedence op.Sub = 2
precedence op.Shl = 3
precedence op.Shr = 3
precedence op.UShr = 3
precedence op.Lt = 4
precedence op.Le = 4
precedence op.Gt = 4
precedence op.Ge = 4
precedence op.Eq = 5
precedence op.Ne = 5
precedence op.BitAnd = 6
precedence op.BitXor = 7
precedence op.BitOr = 8
precedence op.And = 9
precedence op.Or = 10
precedence op.Comma = COMMA

-- of the operators of two operands, `+` and `-` may stand before one operand too, as its sign
abbrev pub sign_of : BinOp → Option UnOp
sign_of op.Add = Some un.Plus
sign_of op.Sub = Some un.Minus
sign_of _ = None

-- the unary operator that a word may be
abbrev pub unary_of : Word → Option UnOp
unary_of (word.Unary o) = Some o
unary_of (word.Operator o) = sign_of o
unary_of _ = None

-- whether a word is `++`, where it is that or `--`
abbrev pub step_of : Word → Option Bool
step_of (word.Step up) = Some up
step_of _ = None

-- the operator before the `=` of an assignment, if a word is one
abbrev pub assignment_of : Word → Option (Option BinOp)
assignment_of (word.Assign o) = Some o
assignment_of _ = None

-- the operator of a level of precedence that a word may be
abbrev pub operator_of : ℕ → Word → Option BinOp
operator_of level (word.Operator o) = if nat_eq (precedence o) level then Some o else None
operator_of level _ = None

-- whether two signs are the same
abbrev pub is_same_sign : Sign → Sign → Bool
is_same_sign = sameb signs.the_type

-- whether a word is this sign
abbrev pub is_sign : Sign → Word → Bool
is_sign sign (word.Sign other) = is_same_sign sign other
is_sign sign _ = false

-- whether a word is a name
abbrev pub is_name : Word → Bool
is_name word.Name = true
is_name _ = false

-- whether a word is a string
abbrev pub is_text : Word → Bool
is_text word.Str = true
is_text _ = false

-- whether a word is a comma
abbrev pub is_comma : Word → Bool
is_comma (word.Operator op.Comma) = true
is_comma _ = false

-- `=` alone
abbrev pub is_equals : Word → Bool
is_equals (word.Assign None) = true
is_equals _ = false

-- ---- what a statement begins with

-- what a statement begins with whose first word is a sign
abbrev pub start_by : Sign → Start
start_by sign.Semicolon = start.Empty
start_by sign.OpenBlock = start.Block
start_by sign.Var = start.Vars
start_by sign.If = start.If
start_by sign.While = start.While
start_by sign.For = start.For
start_by sign.Break = start.Break
start_by sign.Continue = start.Continue
start_by sign.Return = start.Return
start_by _ = start.Expression

-- the same of any first word
abbrev pub start_of : Word → Start
start_of (word.Sign s) = start_by s
start_of _ = start.Expression
