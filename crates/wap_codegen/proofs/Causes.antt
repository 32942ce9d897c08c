-- Causes of faults, and sources that have none.
use Rattle.std.proofs.Common.{◌≡◌, ◌≢◌, ℕ, ◌≤◌, List, length, Result, Ok, Err, refl, sym, ap, subst}
use Rattle.std.proofs.Common.{◌∙◌, arith, All, IfOk, IfErr}
use Rattle.std.proofs.lemmas.Option.{slice_get_within, get_or_from_slice_get}
use Rattle.wap_base.specs.Outcome.{Meets}
use Rattle.wap_lex.specs.declared.token.Token.{Token}
use Rattle.wap_lex.specs.Tokens.{AreTokens}
use Rattle.wap_lex.proofs.Unique.{one_list, apart}
use Rattle.wap_grammar.specs.declared.fault.ParseFault.{ParseFault}
use Rattle.wap_grammar.specs.declared.fault.ParseFault.TheVariants as parse
use Rattle.wap_grammar.specs.declared.precedence.TheConstants.{LEVEL_LIMIT}
use Rattle.wap_grammar.specs.Lexemes.{lexemes_of}
use Rattle.wap_grammar.specs.Programs.{IsProgram, Spells}
use Rattle.wap_grammar.specs.Refusal.{IsPast}
use Rattle.wap_grammar.specs.Depth.{IsFirstBelow}
use Rattle.wap_grammar.specs.reading.Statements.{statement_at}
use Rattle.wap_grammar.specs.reading.Programs.{program_at}
use Rattle.wap_grammar.proofs.Unique.{one}
use Rattle.wap_grammar.specs.declared.program.program.Function.{Function}
use Rattle.wap_grammar.specs.declared.program.program.Program.{Program}
use Rattle.wap_scope.specs.Scoped.{IsScoped}
use Rattle.wap_unit.specs.declared.unit.Unit.{Unit as CodeUnit}
use Rattle.wap_meaning.specs.compiled.Pool.{pool}
use Rattle.wap_meaning.specs.compiled.Units.{compiled}
use Rattle.wap_meaning.specs.compiled.Wide.{function_wide}
use Rattle.wap_meaning.specs.compiled.Accepted.{IsSourceOf, IsAccepted, most_constants, most_code}
use Rattle.wap_codegen.specs.declared.fault.CompileFault.{CompileFault}
use Rattle.wap_codegen.specs.declared.fault.CompileFault.TheVariants.{Lex, Parse, Scope, NoMemory}
use Rattle.wap_codegen.specs.declared.fault.CompileFault.TheVariants.{TooManyConstants, CodeTooLong}
use Rattle.wap_codegen.specs.Turned.{parse_fault}
use Rattle.wap_codegen.specs.Faults.{IsFirstLong, IsCompileFault}
use Rattle.wap_codegen.specs.inside.Units.{IsUnitCause}

-- ---- faults of the layers below

-- of the parser
pub parse_cause : (src : List ℕ) (tokens : List Token) → AreTokens src tokens
    → (fault : ParseFault)
    → ((p : Program) → IsProgram src LEVEL_LIMIT (lexemes_of src tokens) p
    → fault ≢ parse.NoMemory → ◌≡◌ {A = Result Program ParseFault} (Ok p) (Err fault))
    → ((at : ℕ) → fault ≡ parse.Syntax at → (p : Program)
    → Spells src p (lexemes_of src tokens) → ⊥)
    → ((at : ℕ) → fault ≡ parse.Nested at
    → IsPast src LEVEL_LIMIT (lexemes_of src tokens) at)
    → ((at : ℕ) → fault ≡ parse.Nested at → (p : Program)
    → Spells src p (lexemes_of src tokens)
    → IsFirstBelow src LEVEL_LIMIT (lexemes_of src tokens) p at)
    → (fault ≢ parse.NoMemory
    → program_at src (statement_at src LEVEL_LIMIT) (lexemes_of src tokens) ≡ Err fault)
    → IsCompileFault src (parse_fault fault)
parse_cause src tokens are (parse.Syntax at) only syntax nested first stops = record {
  tokens = tokens;
  are_tokens = are;
  none = λ p is. absurd (let bad = only p is (λ same. cc) in cc);
  why = syntax at refl;
  stops = stops (λ same. cc);
}
parse_cause src tokens are (parse.Nested at) only syntax nested first stops = record {
  tokens = tokens;
  are_tokens = are;
  none = λ p is. absurd (let bad = only p is (λ same. cc) in cc);
  why = (nested at refl, first at refl);
  stops = stops (λ same. cc);
}
parse_cause src tokens are parse.NoMemory only syntax nested first stops = tt

-- of the sizes of the unit
pub unit_cause : (src : List ℕ) (p : Program) → IsSourceOf src p → IsScoped p
    → (fault : CompileFault) → IsUnitCause p fault → IsCompileFault src fault
unit_cause src p spelled scoped (TooManyConstants count) (past, needed) = record {
  program = p;
  spelled = spelled;
  scoped = scoped;
  past = past;
  needed = needed;
}
unit_cause src p spelled scoped (CodeTooLong function wide) (few, first) = record {
  program = p;
  spelled = spelled;
  scoped = scoped;
  few = few;
  first = first;
}
unit_cause src p spelled scoped NoMemory is = tt
unit_cause src p spelled scoped _ is = absurd is

-- ---- sources that are accepted

-- the tokens of a source are one list
same_tokens : (src : List ℕ) (xs ys : List Token) → AreTokens src xs → AreTokens src ys → xs ≡ ys
same_tokens src = one_list src

-- a source spells one program
pub one_program : (src : List ℕ) (p q : Program) → IsSourceOf src p → IsSourceOf src q → p ≡ q
one_program src p q first second =
    one src (lexemes_of src first.tokens) p q (LEVEL_LIMIT, first.spells) (
      LEVEL_LIMIT,
      subst (λ (tokens : List Token). IsProgram src LEVEL_LIMIT (lexemes_of src tokens) q)
          (same_tokens src second.tokens first.tokens second.are_tokens first.are_tokens)
          second.spells,
    )

-- no function is too long where none is
not_long : (functions : List Function) (index wide : ℕ)
    → All (λ f. function_wide f ≤ most_code) functions → IsFirstLong functions index wide → ⊥
not_long functions index wide all first =
    let within = slice_get_within functions index first.function first.here in
    let there =
    get_or_from_slice_get functions index first.function first.function first.here in
    let short = subst (λ (f : Function). function_wide f ≤ most_code) there
    (all index first.function within) in
    omega (arith, short, first.size, first.long)

-- an accepted source has no cause of a fault
pub accepted_apart : (src : List ℕ) (p : Program) → IsAccepted src p → (fault : CompileFault)
    → fault ≢ NoMemory → IsCompileFault src fault → ⊥
accepted_apart src p accepted (Lex fault) other is =
    apart src accepted.spells.tokens fault accepted.spells.are_tokens is
accepted_apart src p accepted (Parse fault) other is =
    is.none p (subst (λ (tokens : List Token). IsProgram src LEVEL_LIMIT (lexemes_of src tokens) p)
    (same_tokens src accepted.spells.tokens is.tokens accepted.spells.are_tokens is.are_tokens)
    accepted.spells.spells)
accepted_apart src p accepted (Scope fault) other is =
    subst IsScoped (one_program src p is.program accepted.spells is.spelled) accepted.scoped fault
    is.found
accepted_apart src p accepted (TooManyConstants count) other is =
    let few = subst (λ (q : Program). length (pool q) ≤ most_constants)
    (one_program src p is.program accepted.spells is.spelled) accepted.room.constants in
    omega (arith, few, is.past, is.needed)
accepted_apart src p accepted (CodeTooLong function wide) other is =
    not_long is.program.functions function wide
    (subst (λ (q : Program). All (λ f. function_wide f ≤ most_code) q.functions)
    (one_program src p is.program accepted.spells is.spelled) accepted.room.code) is.first
accepted_apart src p accepted NoMemory other is = other refl

-- it is compiled to one unit
pub one_unit : (src : List ℕ) (p q : Program) → IsAccepted src p → IsAccepted src q
    → (unit : CodeUnit) → unit ≡ compiled p
    → ◌≡◌ {A = Result CodeUnit CompileFault} (Ok (compiled q)) (Ok unit)
one_unit src p q first second unit is =
    ap Ok (ap compiled (one_program src q p second.spells first.spells) ∙ sym is)

-- it is compiled, unless memory runs out
pub no_fault : (src : List ℕ) (p : Program) → IsAccepted src p → (fault : CompileFault)
    → IsCompileFault src fault → fault ≢ NoMemory
    → ◌≡◌ {A = Result CodeUnit CompileFault} (Ok (compiled p)) (Err fault)
no_fault src p accepted fault is other = absurd (accepted_apart src p accepted fault other is)

-- what is answered for the unit of an accepted source is its one answer
pub only_answer : (src : List ℕ) (p : Program) → IsAccepted src p → (unit : CodeUnit)
    → unit ≡ compiled p → (r : Result CodeUnit CompileFault) → IfOk r (λ given. given ≡ unit)
    → IfErr r (λ fault. fault ≡ NoMemory) → (q : Program) → IsAccepted src q
    → Meets NoMemory (λ (u : CodeUnit). u) r (Ok (compiled q))
only_answer src p first unit same (Ok given) kept fault q second =
    one_unit src p q first second given (kept ∙ same)
only_answer src p first unit same (Err why) kept fault q second = λ other. absurd (other fault)
