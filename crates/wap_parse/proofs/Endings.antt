-- What comes of pragmas, functions and the tokens after them.
use Rattle.std.proofs.Common.{◌≡◌, ◌≢◌, ℕ, List, [], ◌∷◌, Ok, Err, refl}
use Rattle.wap_grammar.specs.declared.program.program.Use.{Use}
use Rattle.wap_grammar.specs.declared.program.program.Function.{Function}
use Rattle.wap_grammar.specs.declared.fault.ParseFault.TheVariants as fault
use Rattle.wap_grammar.specs.declared.lexeme.Lexeme.{Lexeme}
use Rattle.wap_grammar.specs.Refusal.{place_of}
use Rattle.wap_grammar.specs.reading.Programs.{program_by}

module _ (src : List ℕ) (us : List Use) where
  pub no_function : (fs : List Function) (rest : List Lexeme) → fs ≡ [] →
      program_by src us fs rest ≡ Err (fault.Syntax (place_of src rest))
  no_function [] rest none = refl
  no_function (f ∷ fs) rest none = absurd cc

  pub left_over : (fs : List Function) (rest : List Lexeme) → rest ≢ [] →
      program_by src us fs rest ≡ Err (fault.Syntax (place_of src rest))
  left_over [] rest some = refl
  left_over (f ∷ fs) [] some = absurd (some refl)
  left_over (f ∷ fs) (l ∷ rest) some = refl

  pub complete : (fs : List Function) (rest : List Lexeme) → fs ≢ [] → rest ≡ [] →
      program_by src us fs rest ≡ Ok (record { uses = us; functions = fs })
  complete [] rest some none = absurd (some refl)
  complete (f ∷ fs) [] some none = refl
  complete (f ∷ fs) (l ∷ rest) some none = absurd cc
