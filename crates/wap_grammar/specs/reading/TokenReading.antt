-- Reading tokens from the left: what stands first, and what follows it. This project's own.
use Rattle.std.specs.Prelude.{ℕ, zero, suc, if◌then◌else◌, List, [], ◌∷◌}
use Rattle.std.specs.Prelude.{length, Option, Some, None, Result, Ok, Err}
use Rattle.wap_base.specs.Outcome.{◌>>=◌}
use Rattle.wap_grammar.specs.declared.program.program.Span.{Span}
use Rattle.wap_grammar.specs.declared.program.program.Id.{Id}
use Rattle.wap_grammar.specs.declared.fault.ParseFault.{ParseFault}
use Rattle.wap_grammar.specs.declared.fault.ParseFault.TheVariants as fault
use Rattle.wap_grammar.specs.declared.lexeme.Lexeme.{Lexeme}
use Rattle.wap_grammar.specs.declared.word.Sign.{Sign}
pub use Rattle.wap_grammar.specs.Lexemes.{word_of}
pub use Rattle.wap_grammar.specs.Refusal.{place_of}
use Rattle.wap_grammar.specs.Lexemes.{is_sign, is_name}
use Rattle.wap_grammar.specs.Values.{id_of}

-- a value and the tokens after it, or a fault
abbrev pub Reading : Type 0 → Type 0
Reading A = Result (A × List Lexeme) ParseFault

abbrev pub span_of : List Lexeme → Span
span_of [] = record { from = 0; to = 0 }
span_of (first ∷ rest) = first.span

-- the tokens after the first
abbrev pub after : List Lexeme → List Lexeme
after [] = []
after (first ∷ rest) = rest

abbrev pub syntax : {A : Type 0} → List ℕ → List Lexeme → Result A ParseFault
syntax src lexemes = Err (fault.Syntax (place_of src lexemes))

abbrev pub nested : {A : Type 0} → List ℕ → List Lexeme → Result A ParseFault
nested src lexemes = Err (fault.Nested (place_of src lexemes))

abbrev pub told : {A B : Type 0} → (A → B) → Reading A → Reading B
told make read = read >>= λ x. Ok (make x.0, x.1)

unfoldable pub expect_at : List ℕ → Sign → List Lexeme → Result (List Lexeme) ParseFault
expect_at src sign lexemes = if is_sign sign (word_of lexemes) then Ok
    (after lexemes) else syntax src lexemes

-- what was read, if the sign stands after it
abbrev pub closed : {A : Type 0} → List ℕ → Sign → A × List Lexeme → Reading A
closed src sign x = expect_at src sign x.1 >>= λ rest. Ok (x.0, rest)

unfoldable pub id_at : List ℕ → List Lexeme → Reading Id
id_at src lexemes =
    if is_name (word_of lexemes) then Ok (
      id_of src
          (span_of lexemes),
      after lexemes,
    ) else syntax src lexemes

-- the next item of a list, or none
abbrev pub Next : Type 0 → Type 0
Next A = List Lexeme → Reading (Option A)

abbrev pub one_more : {A : Type 0} → (List Lexeme → Reading (List A)) → Option A × List Lexeme →
    Reading (List A)
one_more more (None, rest) = Ok ([], rest)
one_more more (Some item, rest) = told (λ items. item ∷ items) (more rest)

-- items, as long as there is a next one, but no more than so many
abbrev pub run_at : {A : Type 0} → Next A → ℕ → List Lexeme → Reading (List A)
run_at next zero lexemes = Ok ([], lexemes)
run_at next (suc most) lexemes = next lexemes >>= one_more (run_at next most)

unfoldable pub items_at : {A : Type 0} → Next A → List Lexeme → Reading (List A)
items_at next lexemes = run_at next (length lexemes) lexemes
