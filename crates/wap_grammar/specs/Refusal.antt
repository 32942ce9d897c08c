-- Places in a source, by the tokens before and after them. This project's own.
use Rattle.std.specs.Prelude.{◌≡◌, ℕ, ◌≤◌, List, [], ◌∷◌, ◌++◌, length}
use Rattle.wap_grammar.specs.declared.lexeme.Lexeme.{Lexeme}

-- where the first of some tokens begins, or the source ends
abbrev pub place_of : List ℕ → List Lexeme → ℕ
place_of src [] = length src
place_of src (first ∷ rest) = first.span.from

-- so many tokens at least stand before a place
pub record IsPast (src : List ℕ) (count : ℕ) (lexemes : List Lexeme) (at : ℕ) : Type 0 where
  pub before : List Lexeme
  pub rest : List Lexeme
  pub whole : lexemes ≡ before ++ rest
  pub many : count ≤ length before
  pub place : at ≡ place_of src rest
