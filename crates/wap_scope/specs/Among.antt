-- Things that stand among some tokens, in their order. This project's own.
use Rattle.std.specs.Prelude.{List, [], ◌∷◌}
use Rattle.wap_grammar.specs.declared.lexeme.Lexeme.{Lexeme}

-- each thing stands at one of the tokens from one place on up to another, in their order
pub data StandAmong {X : Type 0} (StandsAt : Lexeme → X → Type 0) : List Lexeme → List X →
    List Lexeme → Type 0 where
  no_more : (x : List Lexeme) → StandAmong StandsAt x [] x
  skip : (l : Lexeme) (x : List Lexeme) (ns : List X) (y : List Lexeme) →
      StandAmong StandsAt x ns y → StandAmong StandsAt (l ∷ x) ns y
  here : (l : Lexeme) (n : X) (x : List Lexeme) (ns : List X) (y : List Lexeme) →
      StandsAt l n → StandAmong StandsAt x ns y → StandAmong StandsAt (l ∷ x) (n ∷ ns) y
