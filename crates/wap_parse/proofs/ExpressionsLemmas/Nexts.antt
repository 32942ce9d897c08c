-- The next item of a list, by what stands first.
use Rattle.std.proofs.Common.{◌≡◌, ℕ, Bool, true, false, cond, List, Option, Some, None}
use Rattle.std.proofs.Common.{Ok, Err, refl, sym, ap, ◌∙◌}
use Rattle.wap_value.specs.declared.operator.BinOp.{BinOp}
use Rattle.wap_grammar.specs.declared.program.program.Span.{Span}
use Rattle.wap_grammar.specs.declared.program.expression.Expr.{Expr}
use Rattle.wap_grammar.specs.declared.fault.ParseFault.{ParseFault}
use Rattle.wap_grammar.specs.declared.lexeme.Lexeme.{Lexeme}
use Rattle.wap_grammar.specs.declared.precedence.TheConstants.{ASSIGNMENT}
use Rattle.wap_grammar.specs.declared.word.Sign.TheVariants as sign
use Rattle.wap_grammar.specs.Lexemes.{word_of, operator_of, is_sign, is_comma}
use Rattle.wap_grammar.specs.reading.TokenReading.{Reading, span_of, after, told}
use Rattle.wap_grammar.specs.reading.Expressions.{Reader, next_operand, next_argument}
use Rattle.wap_grammar.specs.reading.Statements.{next_listed}
use Rattle.wap_grammar.specs.reading.Programs.{next_use, use_at}

-- an item after the first token where a test holds, and none where it doesn't
abbrev pub next_if : {A : Type 0} → Bool → (List Lexeme → Reading A) → List Lexeme →
    Reading (Option A)
next_if test item rest = cond test (told Some (item (after rest))) (Ok (None, rest))

pub argument_if : (inner : Reader) (rest : List Lexeme) →
    next_argument inner rest ≡ next_if (is_comma (word_of rest)) (inner ASSIGNMENT) rest
unfolding next_argument
argument_if inner rest = refl

pub listed_if : {A : Type 0} (item : List Lexeme → Reading A) (rest : List Lexeme) →
    next_listed item rest ≡ next_if (is_comma (word_of rest)) item rest
unfolding next_listed
listed_if item rest = refl

pub use_if : (src : List ℕ) (word : Span) (rest : List Lexeme) → word ≡ span_of rest →
    next_use src rest ≡ next_if (is_sign sign.Use (word_of rest)) (use_at src word) rest
unfolding next_use
use_if src word rest at =
    ap (λ (place : Span). next_if (is_sign sign.Use (word_of rest)) (use_at src place) rest)
    (sym at)

-- by what the test answered
module _ {A : Type 0} (item : List Lexeme → Reading A) (rest : List Lexeme) (test held : Bool)
    (is : held ≡ test) where
  pub found : (place : List Lexeme) (value : A) (behind : List Lexeme) → held ≡ true →
      place ≡ after rest → item place ≡ Ok (value, behind) →
      next_if test item rest ≡ Ok (Some value, behind)
  found place value behind so there e =
      rw (sym is ∙ so) (ap (λ (a : List Lexeme). told Some (item a)) (sym there)
      ∙ ap (told Some) e)

  pub failed : (place : List Lexeme) (fault : ParseFault) → held ≡ true → place ≡ after rest →
      item place ≡ Err fault → next_if test item rest ≡ Err fault
  failed place fault so there e =
      rw (sym is ∙ so) (ap (λ (a : List Lexeme). told Some (item a)) (sym there)
      ∙ ap (told Some) e)

  pub missing : held ≡ false → next_if test item rest ≡ Ok (None, rest)
  missing so = rw (sym is ∙ so) refl

-- by the operator that was found
module _ (level : ℕ) (tighter : List Lexeme → Reading Expr) (rest : List Lexeme)
    (found : Option BinOp) (is : found ≡ operator_of level (word_of rest)) where
  pub operand_found : (place : List Lexeme) (o : BinOp) (e : Expr) (behind : List Lexeme) →
      found ≡ Some o → place ≡ after rest → tighter place ≡ Ok (e, behind) →
      next_operand level tighter rest ≡ Ok (Some (o, e), behind)
  unfolding next_operand
  operand_found place o e behind so there read =
      rw (sym is ∙ so) (ap (λ (a : List Lexeme). told (λ operand. Some (o, operand)) (tighter a))
      (sym there) ∙ ap (told (λ operand. Some (o, operand))) read)

  pub operand_fault : (place : List Lexeme) (o : BinOp) (fault : ParseFault) →
      found ≡ Some o → place ≡ after rest → tighter place ≡ Err fault →
      next_operand level tighter rest ≡ Err fault
  unfolding next_operand
  operand_fault place o fault so there read =
      rw (sym is ∙ so) (ap (λ (a : List Lexeme). told (λ operand. Some (o, operand)) (tighter a))
      (sym there) ∙ ap (told (λ operand. Some (o, operand))) read)

  pub no_operand : found ≡ None → next_operand level tighter rest ≡ Ok (None, rest)
  unfolding next_operand
  no_operand so = rw (sym is ∙ so) refl
