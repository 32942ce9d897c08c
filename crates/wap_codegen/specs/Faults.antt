-- Why a source isn't compiled: what its tokens, its program, the names of this or the sizes of the
-- unit are refused for. This project's own.
use Rattle.std.specs.Prelude.{◌≡◌, ◌≢◌, ℕ, ◌<◌, ◌≤◌, List, length, take, slice_get, Some, Err}
use Rattle.std.specs.List.{All}
use Rattle.wap_lex.specs.declared.fault.LexFault.TheVariants as lex
use Rattle.wap_lex.specs.declared.token.Token.{Token}
use Rattle.wap_lex.specs.Tokens.{AreTokens, IsRefused}
use Rattle.wap_grammar.specs.declared.lexeme.Lexeme.{Lexeme}
use Rattle.wap_grammar.specs.declared.fault.ParseFault.{ParseFault}
use Rattle.wap_grammar.specs.declared.fault.ParseFault.TheVariants as parse
use Rattle.wap_grammar.specs.declared.precedence.TheConstants.{LEVEL_LIMIT}
use Rattle.wap_grammar.specs.Lexemes.{lexemes_of}
use Rattle.wap_grammar.specs.Programs.{IsProgram, Spells}
use Rattle.wap_grammar.specs.Refusal.{IsPast}
use Rattle.wap_grammar.specs.Depth.{IsFirstBelow}
use Rattle.wap_grammar.specs.reading.Statements.{statement_at}
use Rattle.wap_grammar.specs.reading.Programs.{program_at}
use Rattle.wap_grammar.specs.declared.program.program.Function.{Function}
use Rattle.wap_grammar.specs.declared.program.program.Program.{Program}
use Rattle.wap_scope.specs.declared.fault.ScopeFault.{ScopeFault}
use Rattle.wap_scope.specs.declared.fault.ScopeFault.TheVariants as scope
use Rattle.wap_scope.specs.Scoped.{IsFault, IsScoped}
use Rattle.wap_scope.specs.Faults.{faults, first_fault}
use Rattle.wap_meaning.specs.compiled.Pool.{pool}
use Rattle.wap_meaning.specs.compiled.Wide.{function_wide}
use Rattle.wap_meaning.specs.compiled.Accepted.{IsSourceOf, most_constants, most_code}
use Rattle.wap_codegen.specs.declared.fault.CompileFault.{CompileFault}
use Rattle.wap_codegen.specs.declared.fault.CompileFault.TheVariants.{Lex, Parse, Scope}
use Rattle.wap_codegen.specs.declared.fault.CompileFault.TheVariants.{TooManyConstants, CodeTooLong}
use Rattle.wap_codegen.specs.declared.fault.CompileFault.TheVariants.{NoMemory}

-- why a parser refuses tokens: no program spells them; or a part stands deeper than so many levels,
-- and where a program spells them, that is its first such part
abbrev pub IsParseCause : List ℕ → List Lexeme → ParseFault → Type 0
IsParseCause src lexemes (parse.Syntax at) = (p : Program) → Spells src p lexemes → ⊥
IsParseCause src lexemes (parse.Nested at) =
    IsPast src LEVEL_LIMIT lexemes at
    × ((p : Program) → Spells src p lexemes → IsFirstBelow src LEVEL_LIMIT lexemes p at)
IsParseCause src lexemes parse.NoMemory = ⊥

-- the tokens of a source are refused
pub record HasNoProgram (src : List ℕ) (fault : ParseFault) : Type 0 where
  pub tokens : List Token
  pub are_tokens : AreTokens src tokens
  -- they spell no program of so few levels
  pub none : (p : Program) → IsProgram src LEVEL_LIMIT (lexemes_of src tokens) p → ⊥
  pub why : IsParseCause src (lexemes_of src tokens) fault
  -- reading them from the left stops with this fault
  pub stops : program_at src (statement_at src LEVEL_LIMIT) (lexemes_of src tokens) ≡ Err fault

-- the names of its program aren't in order
pub record IsUnscoped (src : List ℕ) (fault : ScopeFault) : Type 0 where
  pub program : Program
  pub spelled : IsSourceOf src program
  pub found : IsFault program fault
  pub first : first_fault (faults program) ≡ Some fault

-- its program needs so many constants, and that is too many
pub record NeedsMany (src : List ℕ) (count : ℕ) : Type 0 where
  pub program : Program
  pub spelled : IsSourceOf src program
  pub scoped : IsScoped program
  pub past : most_constants < count
  pub needed : count ≡ length (pool program)

-- the function at an index is the first whose wide size is too great
pub record IsFirstLong (functions : List Function) (index wide : ℕ) : Type 0 where
  pub function : Function
  pub here : slice_get functions index ≡ Some function
  pub size : wide ≡ function_wide function
  pub long : most_code < wide
  pub shorter : All (λ f. function_wide f ≤ most_code) (take index functions)

-- a function of its program is too long
pub record IsTooLong (src : List ℕ) (index wide : ℕ) : Type 0 where
  pub program : Program
  pub spelled : IsSourceOf src program
  pub scoped : IsScoped program
  pub few : length (pool program) ≤ most_constants
  pub first : IsFirstLong program.functions index wide

-- why a source isn't compiled; out of memory has no cause
abbrev pub IsCompileFault : List ℕ → CompileFault → Type 0
IsCompileFault src (Lex fault) = IsRefused src fault
IsCompileFault src (Parse fault) = HasNoProgram src fault
IsCompileFault src (Scope fault) = IsUnscoped src fault
IsCompileFault src (TooManyConstants count) = NeedsMany src count
IsCompileFault src (CodeTooLong function wide) = IsTooLong src function wide
IsCompileFault src NoMemory = Unit {0}

-- no fault in it says that memory ran out
abbrev pub IsPlain : CompileFault → Type 0
IsPlain (Lex fault) = fault ≢ lex.NoMemory
IsPlain (Parse fault) = fault ≢ parse.NoMemory
IsPlain (Scope fault) = fault ≢ scope.NoMemory
IsPlain _ = Unit {0}
