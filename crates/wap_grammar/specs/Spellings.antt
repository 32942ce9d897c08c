-- Tokens that spell something: those from one place up to another. This project's own.
use Rattle.std.specs.Prelude.{List, [], ◌∷◌}
use Rattle.wap_value.specs.declared.operator.BinOp.TheVariants as op
use Rattle.wap_grammar.specs.declared.program.program.Span.{Span}
use Rattle.wap_grammar.specs.declared.lexeme.Lexeme.{Lexeme}
use Rattle.wap_grammar.specs.declared.word.Word.{Word}
use Rattle.wap_grammar.specs.declared.word.Word.TheVariants as word
use Rattle.wap_grammar.specs.declared.word.Sign.{Sign}

-- tokens that begin with the spelling, what is spelled, and the tokens after the spelling
abbrev pub Spelling : Type 0 → Type 1
Spelling A = List Lexeme → A → List Lexeme → Type 0

-- a token that is a word
abbrev pub token : Word → Span → Lexeme
token w span = record { word = w; span = span }

-- a token that is a name
abbrev pub name : Span → Lexeme
name = token word.Name

-- a token that is a sign
abbrev pub sign : Sign → Span → Lexeme
sign s = token (word.Sign s)

-- items one after the other
pub data Several {A : Type 0} (IsItem : Spelling A) : List Lexeme → List A → List Lexeme →
    Type 0 where
  none : (a : List Lexeme) → Several IsItem a [] a
  more : (a b c : List Lexeme) (item : A) (items : List A) → IsItem a item b →
      Several IsItem b items c →
      Several IsItem a (item ∷ items) c

-- a comma, and an item
pub data IsAfterComma {A : Type 0} (IsItem : Spelling A) : List Lexeme → A → List Lexeme →
    Type 0 where
  item : (comma : Span) (x y : List Lexeme) (i : A) → IsItem x i y →
      IsAfterComma IsItem (token (word.Operator op.Comma) comma ∷ x) i y

-- items, one at least, with commas between them
pub data AreListed {A : Type 0} (IsItem : Spelling A) : List Lexeme → List A → List Lexeme →
    Type 0 where
  listed : (x y z : List Lexeme) (i : A) (is : List A) → IsItem x i y →
      Several (IsAfterComma IsItem) y is z →
      AreListed IsItem x (i ∷ is) z
