-- Things that stand among tokens in a row.
use Rattle.std.proofs.Common.{◌≡◌, List, [], ◌∷◌, ◌++◌, sym, subst}
use Rattle.std.proofs.lemmas.List.{append-nil}
use Rattle.std.specs.List.{flat_map}
use Rattle.wap_grammar.specs.declared.lexeme.Lexeme.{Lexeme}
use Rattle.wap_grammar.specs.Spellings.{Spelling, Several, IsAfterComma, AreListed}
use Rattle.wap_grammar.specs.Spellings as spelled
use Rattle.wap_scope.specs.Among.{StandAmong, no_more, skip, here}

module _ {X : Type 0} {At : Lexeme → X → Type 0} where
  -- past a token at which nothing stands
  pub over : {l : Lexeme} {x y : List Lexeme} {ns : List X} → StandAmong At x ns y →
      StandAmong At (l ∷ x) ns y
  over among = skip _ _ _ _ among

  -- one thing at one token
  pub at : {l : Lexeme} {n : X} {x : List Lexeme} → At l n → StandAmong At (l ∷ x) (n ∷ []) x
  at is = here _ _ _ _ _ is (no_more _)

  -- things among some tokens, and things among the tokens after them
  pub in_a_row : {x y z : List Lexeme} {ns ms : List X} → StandAmong At x ns y →
      StandAmong At y ms z → StandAmong At x (ns ++ ms) z
  in_a_row (no_more x) more = more
  in_a_row (skip l x ns y rest) more = skip l x _ _ (in_a_row rest more)
  in_a_row (here l n x ns y is rest) more = here l n x _ _ is (in_a_row rest more)

  -- the same things, of equal lists
  pub same : {x y : List Lexeme} {ns ms : List X} → ns ≡ ms → StandAmong At x ms y →
      StandAmong At x ns y
  same {x = x} {y = y} is among = subst (λ (ns : List X). StandAmong At x ns y) (sym is) among

  -- things, and tokens after them among which nothing stands
  pub up_to : {x y z : List Lexeme} {ns : List X} → StandAmong At x ns y → StandAmong At y [] z →
      StandAmong At x ns z
  up_to {ns = ns} among rest = same (sym (append-nil ns)) (in_a_row among rest)

  -- the same with one token after them
  pub past : {l : Lexeme} {x y : List Lexeme} {ns : List X} → StandAmong At x ns (l ∷ y) →
      StandAmong At x ns y
  past among = up_to among (over (no_more _))

  -- nothing, where things stand
  pub drops : {x y : List Lexeme} {ns : List X} → StandAmong At x ns y → StandAmong At x [] y
  drops (no_more x) = no_more x
  drops (skip l x ns y rest) = over (drops rest)
  drops (here l n x ns y is rest) = over (drops rest)

module _ {X : Type 0} (At : Lexeme → X → Type 0) where
  -- what an item says stands among the tokens that spell it
  abbrev pub Finds : {A : Type 0} → (A → List X) → Spelling A → Type 0
  Finds {A} of Is = (x : List Lexeme) (a : A) (y : List Lexeme) → Is x a y →
      StandAmong At x (of a) y

  module _ {A : Type 0} (of : A → List X) (Is : Spelling A) (finds : Finds of Is) where
    pub several : Finds (flat_map of) (Several Is)
    several x all y (spelled.none x') = no_more x
    several x all z (spelled.more x' y z' item items is rest) =
        in_a_row (finds x item y is) (several y items z rest)

    pub after_comma : Finds of (IsAfterComma Is)
    after_comma x' a y (spelled.item comma x y' i is) = over (finds x a y is)

  module _ {A : Type 0} (of : A → List X) (Is : Spelling A) (finds : Finds of Is) where
    pub listed : Finds (flat_map of) (AreListed Is)
    listed x is z (spelled.listed x' y z' i others first rest) =
        in_a_row (finds x i y first)
        (several of (IsAfterComma Is) (after_comma of Is finds) y others z rest)
