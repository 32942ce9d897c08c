-- Places among tokens that stand one after the other.
use Rattle.std.proofs.Common.{◌≡◌, ℕ, suc, ◌≤◌, List, map, sym, subst, arith}
use Rattle.wap_grammar.specs.declared.program.program.Span.{Span}
use Rattle.wap_grammar.specs.declared.lexeme.Lexeme.{Lexeme}
use Rattle.wap_scope.specs.Among.{StandAmong, no_more, skip, here}
use Rattle.wap_scope.proofs.Ordered.{Apart, from_earlier}

-- a place begins with a token
abbrev pub BeginsAt : Lexeme → Span → Type 0
BeginsAt l p = p.from ≡ l.span.from

-- where tokens begin
abbrev pub spans : List Lexeme → List Span
spans = map (λ (l : Lexeme). l.span)

-- where tokens stand one after the other, places among them do
pub places_apart : (x : List Lexeme) (ps : List Span) (y : List Lexeme) →
    StandAmong BeginsAt x ps y → (at : ℕ) → Apart at (spans x) → Apart at ps
places_apart x ps y (no_more x') at up = tt
places_apart x' ps y (skip l x ps' y' among) at up =
    places_apart x ps y among at
    (from_earlier at (suc l.span.from) (spans x) (omega (arith, up.0)) up.1)
places_apart x' ps' y (here l p x ps y' is among) at up = (
  subst (λ (n : ℕ). at ≤ n) (sym is) up.0,
  subst (λ (n : ℕ). Apart (suc n) ps) (sym is) (places_apart x ps y among (suc l.span.from) up.1),
)
