-- What a call answers that meets the reading of programs.
use Rattle.std.proofs.Common.{◌≡◌, ◌≢◌, ℕ, List, Result, Ok, Err, IfOk, IfErr, subst}
use Rattle.wap_base.specs.Outcome.{Meets}
use Rattle.wap_grammar.specs.declared.program.program.Program.{Program}
use Rattle.wap_grammar.specs.declared.fault.ParseFault.{ParseFault}
use Rattle.wap_grammar.specs.declared.fault.ParseFault.TheVariants as fault
use Rattle.wap_grammar.specs.declared.lexeme.Lexeme.{Lexeme}
use Rattle.wap_grammar.specs.Programs.{IsProgram, Spells}
use Rattle.wap_grammar.specs.Refusal.{IsPast}
use Rattle.wap_grammar.specs.Depth.{IsFirstBelow}
use Rattle.wap_grammar.specs.reading.Programs.{program_at}
use Rattle.wap_grammar.specs.reading.Statements.{statement_at}
use Rattle.wap_grammar.proofs.Whole.{program_ok, program_again}
use Rattle.wap_grammar.proofs.Below.{program_none, program_past, first_spelled}

abbrev pub IsRead : List ℕ → List Lexeme → Result Program ParseFault → Type 0
IsRead src a r =
    Meets fault.NoMemory (λ (p : Program). p) r (program_at src (statement_at src 64) a)

no_memory : (at : ℕ) → fault.Syntax at ≢ fault.NoMemory
no_memory at e = absurd cc

no_memory_nested : (at : ℕ) → fault.Nested at ≢ fault.NoMemory
no_memory_nested at e = absurd cc

pub found_by : (src : List ℕ) (a : List Lexeme) (r : Result Program ParseFault) → IsRead src a r
    → IfOk r (λ p. IsProgram src 64 a p)
found_by src a (Ok p) met = program_ok src 64 a p met
found_by src a (Err f) met = tt

pub only_by : (src : List ℕ) (a : List Lexeme) (r : Result Program ParseFault) → IsRead src a r
    → (p : Program) → IsProgram src 64 a p → Meets fault.NoMemory (λ (p : Program). p) r (Ok p)
only_by src a r met p is =
    subst (Meets fault.NoMemory (λ (p : Program). p) r) (program_again src 64 a p is) met

fault_by : (src : List ℕ) (a : List Lexeme) (f g : ParseFault) → IsRead src a (Err f) → f ≡ g →
    g ≢ fault.NoMemory → program_at src (statement_at src 64) a ≡ Err g
fault_by src a f g met is other = subst (λ (h : ParseFault). h ≢ fault.NoMemory →
    program_at src (statement_at src 64) a ≡ Err h) is met other

pub syntax_by : (src : List ℕ) (a : List Lexeme) (r : Result Program ParseFault) → IsRead src a r
    → IfErr r (λ f. (at : ℕ) → f ≡ fault.Syntax at → (p : Program) → Spells src p a → ⊥)
syntax_by src a (Ok p) met = tt
syntax_by src a (Err f) met = λ at is p spells.
    program_none src a at 64 (fault_by src a f (fault.Syntax at) met is (no_memory at)) p spells

pub nested_by : (src : List ℕ) (a : List Lexeme) (r : Result Program ParseFault) → IsRead src a r
    → IfErr r (λ f. (at : ℕ) → f ≡ fault.Nested at → IsPast src 64 a at)
nested_by src a (Ok p) met = tt
nested_by src a (Err f) met = λ at is.
    program_past src a 64 0 at (fault_by src a f (fault.Nested at) met is (no_memory_nested at))

pub first_by : (src : List ℕ) (a : List Lexeme) (r : Result Program ParseFault) → IsRead src a r
    → IfErr r (λ f. (at : ℕ) → f ≡ fault.Nested at → (p : Program) → Spells src p a →
    IsFirstBelow src 64 a p at)
first_by src a (Ok p) met = tt
first_by src a (Err f) met = λ at is p spells. first_spelled src a 64 at p
    (fault_by src a f (fault.Nested at) met is (no_memory_nested at)) spells
