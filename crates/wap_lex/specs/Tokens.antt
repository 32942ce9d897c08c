-- The tokens of a source, and its first fault (WAP-193, section 6.1).
use Rattle.std.specs.Prelude.{◌≡◌, ℕ, ◌+◌, ◌<◌, ◌≤◌, true, false, if◌then◌else◌, List}
use Rattle.std.specs.Prelude.{[], ◌∷◌, ◌++◌, length, Option, Some, None}
use Rattle.std.specs.List.{list_all}
use Rattle.std.specs.Str.{IsUtf8}
use Rattle.wap_base.specs.Ascii.{asterisk, slash, backslash}
use Rattle.wap_base.specs.Names.{is_name}
use Rattle.wap_lex.specs.declared.token.Kind.{Kind}
use Rattle.wap_lex.specs.declared.token.Kind.TheVariants as kind
use Rattle.wap_lex.specs.declared.token.Token.{Token}
use Rattle.wap_lex.specs.declared.shape.Shape.{Shape}
use Rattle.wap_lex.specs.declared.shape.Shape.TheVariants.{Blank, Comment, Word, Integer}
use Rattle.wap_lex.specs.declared.shape.Shape.TheVariants.{Float, Str, Mark}
use Rattle.wap_lex.specs.declared.fault.LexFault.{LexFault}
use Rattle.wap_lex.specs.declared.fault.LexFault.TheVariants.{NotText, BadChar, OpenString}
use Rattle.wap_lex.specs.declared.fault.LexFault.TheVariants.{OpenComment, BadEscape, IntRange}
use Rattle.wap_lex.specs.Characters.{is_white, is_quote, is_line_end}
use Rattle.wap_lex.specs.ReservedWords.{is_reserved}
use Rattle.wap_lex.specs.Numbers.{IsInteger, IsFloat, integer_value, integer_limit}
use Rattle.wap_lex.specs.Strings.{IsEscape, AreItems, IsString}
use Rattle.wap_lex.specs.Marks.{is_mark}
use Rattle.wap_lex.specs.Comments.{IsComment}

-- the text has the shape
abbrev pub IsShape : Shape → List ℕ → Type 0
IsShape Blank text = (0 < length text) × (list_all is_white text ≡ true)
IsShape Comment text = IsComment text
IsShape Word text = is_name text ≡ true
IsShape Integer text = IsInteger text
IsShape Float text = IsFloat text
IsShape Str text = IsString text
IsShape Mark text = is_mark text ≡ true

-- the kind of token that a text of a shape is, if it is one
abbrev pub kind_of : Shape → List ℕ → Option Kind
kind_of Blank text = None
kind_of Comment text = None
kind_of Word text = Some (if is_reserved text then kind.Reserved else kind.Name)
kind_of Integer text = Some kind.Int
kind_of Float text = Some kind.Float
kind_of Str text = Some kind.Str
kind_of Mark text = Some kind.Mark

-- a comment begins that the end of the source ends
pub record IsOpenComment (bytes : List ℕ) : Type 0 where
  pub inside : List ℕ
  pub begins : bytes ≡ slash ∷ asterisk ∷ inside
  pub open_still : (text more : List ℕ) → bytes ≡ text ++ more → IsComment text → ⊥

-- a text at the beginning of the bytes has a shape, and none that is longer has any
pub record IsPiece (shape : Shape) (text more : List ℕ) : Type 0 where
  pub fits : IsShape shape text
  pub longest : (other : Shape) (longer after : List ℕ) → text ++ more ≡ longer ++ after →
      IsShape other longer →
      length longer ≤ length text
  pub closed : IsOpenComment (text ++ more) → ⊥

-- an integer is no greater than any may be
abbrev pub IsInRange : Shape → List ℕ → Type 0
IsInRange shape text = shape ≡ Integer → integer_value text ≤ integer_limit

-- tokens, and one before them where a piece is one
abbrev pub token_before : Option Kind → ℕ → ℕ → List Token → List Token
token_before None from to tokens = tokens
token_before (Some kind) from to tokens = record { kind = kind; from = from; to = to } ∷ tokens

-- the tokens of bytes that stand at a place, each piece of them the longest
pub data Lexes : ℕ → List ℕ → List Token → Type 0 where
  ends : (at : ℕ) → Lexes at [] []
  piece : (at : ℕ) (shape : Shape) (text more : List ℕ) (tokens : List Token) →
      IsPiece shape text more →
      IsInRange shape text → Lexes (at + length text) more tokens →
      Lexes at (text ++ more) (token_before (kind_of shape text) at (at + length text) tokens)

-- the source is UTF-8, and these are its tokens
pub record AreTokens (src : List ℕ) (tokens : List Token) : Type 0 where
  pub text : IsUtf8 src
  pub lexed : Lexes 0 src tokens

-- ---- faults

-- no escape begins
abbrev pub BeginsNoEscape : List ℕ → Type 0
BeginsNoEscape bytes = (text more : List ℕ) → bytes ≡ text ++ more → IsEscape text → ⊥

-- nothing is left, or the end of a line comes next
abbrev pub EndsLine : List ℕ → Type 0
EndsLine [] = Unit {0}
EndsLine (c ∷ bytes) = is_line_end c ≡ true

-- what is wrong with what begins at a place
pub data Stops (at : ℕ) : List ℕ → LexFault → Type 0 where
  character : (c : ℕ) (bytes : List ℕ) → is_quote c ≡ false →
      ((shape : Shape) (text more : List ℕ) →
      c ∷ bytes ≡ text ++ more → IsShape shape text → ⊥) → Stops at (c ∷ bytes) (BadChar at)
  string : (quote : ℕ) (items bytes : List ℕ) → is_quote quote ≡ true → AreItems quote items →
      EndsLine bytes →
      Stops at (quote ∷ (items ++ bytes)) (OpenString at)
  escape : (quote : ℕ) (items bytes : List ℕ) → is_quote quote ≡ true → AreItems quote items →
      BeginsNoEscape bytes →
      Stops at (quote ∷ (items ++ backslash ∷ bytes)) (BadEscape (at + 1 + length items))
  comment : (bytes : List ℕ) → IsOpenComment bytes → Stops at bytes (OpenComment at)
  integer : (text more : List ℕ) → IsPiece Integer text more → integer_limit < integer_value text →
      Stops at (text ++ more) (IntRange at)

-- pieces, and after them the first thing that is wrong
pub data StopsIn : ℕ → List ℕ → LexFault → Type 0 where
  here : (at : ℕ) (bytes : List ℕ) (fault : LexFault) → Stops at bytes fault →
      StopsIn at bytes fault
  behind : (at : ℕ) (shape : Shape) (text more : List ℕ) (fault : LexFault) →
      IsPiece shape text more →
      IsInRange shape text → StopsIn (at + length text) more fault → StopsIn at (text ++ more) fault

-- the fault of a source: it is no text, or the first thing that is wrong
pub data IsRefused (src : List ℕ) : LexFault → Type 0 where
  no_text : ¬ (IsUtf8 src) → IsRefused src NotText
  stops : (fault : LexFault) → IsUtf8 src → StopsIn 0 src fault → IsRefused src fault
