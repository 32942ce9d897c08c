-- A source that is accepted has no fault, and no source has two.
use Rattle.std.proofs.Common.{◌≡◌, ℕ, zero, suc, ◌≤◌, List, [], ◌∷◌, length, take, Some, refl}
use Rattle.std.proofs.Common.{Result, sym, ap, ap₂, subst, ◌∙◌, arith}
use Rattle.std.proofs.lemmas.List.Elements.{recursion_from_All, All-from_recursion}
use Rattle.wap_base.proofs.Choices.{some_same, err_same}
use Rattle.wap_lex.specs.declared.token.Token.{Token}
use Rattle.wap_lex.specs.declared.fault.LexFault.{LexFault}
use Rattle.wap_lex.specs.Tokens.{AreTokens}
use Rattle.wap_lex.proofs.Unique.{one_list, one_fault, apart}
use Rattle.wap_grammar.specs.declared.fault.ParseFault.{ParseFault}
use Rattle.wap_grammar.specs.declared.precedence.TheConstants.{LEVEL_LIMIT}
use Rattle.wap_grammar.specs.Lexemes.{lexemes_of}
use Rattle.wap_grammar.specs.Programs.{IsProgram}
use Rattle.wap_grammar.specs.reading.Statements.{statement_at}
use Rattle.wap_grammar.specs.reading.Programs.{program_at}
use Rattle.wap_grammar.specs.declared.program.program.Function.{Function}
use Rattle.wap_grammar.specs.declared.program.program.Program.{Program}
use Rattle.wap_scope.specs.declared.fault.ScopeFault.{ScopeFault}
use Rattle.wap_scope.specs.Scoped.{IsFault, IsScoped}
use Rattle.wap_scope.specs.Faults.{faults, first_fault}
use Rattle.wap_meaning.specs.compiled.Pool.{pool}
use Rattle.wap_meaning.specs.compiled.Wide.{function_wide}
use Rattle.wap_meaning.specs.compiled.Accepted.{IsSourceOf, IsAccepted, most_constants, most_code}
use Rattle.wap_codegen.specs.declared.fault.CompileFault.{CompileFault}
use Rattle.wap_codegen.specs.declared.fault.CompileFault.TheVariants as fault
use Rattle.wap_codegen.specs.Faults.{HasNoProgram, IsFirstLong}
use Rattle.wap_codegen.specs.source_faults.Faults.{IsFaultOf}
use Rattle.wap_codegen.proofs.Causes.{one_program}
use Rattle.wap_codegen.proofs.Causes as causes

-- ---- the first function that is too long

abbrev IsShort : Function → Type 0
IsShort f = function_wide f ≤ most_code

-- the first function isn't short and too long
not_both : (f : Function) (functions : List Function) (wide : ℕ) → IsShort f
    → IsFirstLong (f ∷ functions) 0 wide → ⊥
not_both f functions wide short first =
    let same = ap function_wide (some_same f first.function first.here) in
    omega (arith, short, same, first.size, first.long)

-- after a function there is the same
onward : (f : Function) (functions : List Function) (index wide : ℕ)
    → IsFirstLong (f ∷ functions) (suc index) wide → IsFirstLong functions index wide
onward f functions index wide first = record {
  function = first.function;
  here = first.here;
  size = first.size;
  long = first.long;
  shorter =
      All-from_recursion IsShort (take index functions)
      (recursion_from_All IsShort (f ∷ take index functions) first.shorter).1;
}

-- there is one first
one_long : (functions : List Function) (i w j v : ℕ) → IsFirstLong functions i w
    → IsFirstLong functions j v → (i ≡ j) × (w ≡ v)
one_long [] i w j v first second = absurd (cc first.here)
one_long (f ∷ functions) zero w zero v first second = (
  refl,
  first.size
      ∙ ap function_wide (some_same first.function second.function (sym first.here ∙ second.here))
      ∙ sym second.size,
)
one_long (f ∷ functions) zero w (suc j) v first second =
    absurd (not_both f functions w
    (recursion_from_All IsShort (f ∷ take j functions) second.shorter).0 first)
one_long (f ∷ functions) (suc i) w zero v first second =
    absurd (not_both f functions v
    (recursion_from_All IsShort (f ∷ take i functions) first.shorter).0 second)
one_long (f ∷ functions) (suc i) w (suc j) v first second =
    let rest =
    one_long functions i w j v (onward f functions i w first) (onward f functions j v second) in
    (ap suc rest.0, rest.1)

module _ (source : List ℕ) where
  -- ---- a source has one program

  -- its tokens are one list
  over : (tokens others : List Token) → AreTokens source tokens → AreTokens source others
      → (p : Program) → IsProgram source LEVEL_LIMIT (lexemes_of source tokens) p
      → IsProgram source LEVEL_LIMIT (lexemes_of source others) p
  over tokens others are same p =
      subst (λ (ts : List Token). IsProgram source LEVEL_LIMIT (lexemes_of source ts) p)
      (one_list source tokens others are same)

  -- a source with a program isn't one without
  not_none : (p : Program) (why : ParseFault) → IsSourceOf source p → HasNoProgram source why → ⊥
  not_none p why spells none =
      none.none p (over spells.tokens none.tokens spells.are_tokens none.are_tokens p spells.spells)

  -- one whose names are in order isn't one where they aren't
  not_unscoped : (p q : Program) (why : ScopeFault) → IsSourceOf source p → IsSourceOf source q
      → IsScoped p → IsFault q why → ⊥
  not_unscoped p q why first second scoped found =
      subst IsScoped (one_program source p q first second) scoped why found

  -- one with few constants isn't one with many
  not_many : (p q : Program) (count : ℕ) → IsSourceOf source p → IsSourceOf source q
      → length (pool p) ≤ most_constants → count ≡ length (pool q)
      → suc most_constants ≤ count → ⊥
  not_many p q count first second few needed past =
      let same = ap (λ (r : Program). length (pool r)) (one_program source p q first second) in
      omega (arith, few, same, needed, past)

  -- ---- an accepted source has no fault

  pub accepted_apart : (p : Program) (why : CompileFault) → IsAccepted source p
      → ¬ IsFaultOf source why
  accepted_apart p why is of = causes.accepted_apart source p is why of.some of.cause

  -- ---- two faults

  same_scope : (p q : Program) (why other : ScopeFault) → IsSourceOf source p
      → IsSourceOf source q → first_fault (faults p) ≡ Some why
      → first_fault (faults q) ≡ Some other → why ≡ other
  same_scope p q why other first second is so =
      some_same why other (sym is
      ∙ ap (λ (r : Program). first_fault (faults r)) (one_program source p q first second) ∙ so)

  same_long : (p q : Program) (i w j v : ℕ) → IsSourceOf source p → IsSourceOf source q
      → IsFirstLong p.functions i w → IsFirstLong q.functions j v → (i ≡ j) × (w ≡ v)
  same_long p q i w j v first second is so =
      one_long q.functions i w j v
      (subst (λ (r : Program). IsFirstLong r.functions i w) (one_program source p q first second)
      is) so

  abbrev spelled_by : List Token → Result Program ParseFault
  spelled_by tokens = program_at source (statement_at source LEVEL_LIMIT) (lexemes_of source tokens)

  -- reading the one list of tokens stops with one fault
  same_stop : (why other : ParseFault) → HasNoProgram source why → HasNoProgram source other
      → why ≡ other
  same_stop why other is so =
      err_same {A = Program} why other (sym is.stops
      ∙ ap spelled_by
      (one_list source is.tokens so.tokens is.are_tokens so.are_tokens) ∙ so.stops)

  pub alike : (why other : CompileFault) → IsFaultOf source why → IsFaultOf source other
      → why ≡ other
  alike fault.NoMemory other is so = absurd (is.some refl)
  alike why fault.NoMemory is so = absurd (so.some refl)
  alike (fault.Lex f) (fault.Lex g) is so =
      ap (λ (h : LexFault). fault.Lex h) (one_fault source f g is.cause so.cause)
  alike (fault.Lex f) (fault.Parse g) is so =
      absurd (apart source so.cause.tokens f so.cause.are_tokens is.cause)
  alike (fault.Lex f) (fault.Scope g) is so =
      absurd (apart source so.cause.spelled.tokens f so.cause.spelled.are_tokens is.cause)
  alike (fault.Lex f) (fault.TooManyConstants n) is so =
      absurd (apart source so.cause.spelled.tokens f so.cause.spelled.are_tokens is.cause)
  alike (fault.Lex f) (fault.CodeTooLong i w) is so =
      absurd (apart source so.cause.spelled.tokens f so.cause.spelled.are_tokens is.cause)
  alike (fault.Parse f) (fault.Lex g) is so =
      absurd (apart source is.cause.tokens g is.cause.are_tokens so.cause)
  alike (fault.Parse f) (fault.Parse g) is so =
      ap (λ (h : ParseFault). fault.Parse h) (same_stop f g is.cause so.cause)
  alike (fault.Parse f) (fault.Scope g) is so =
      absurd (not_none so.cause.program f so.cause.spelled is.cause)
  alike (fault.Parse f) (fault.TooManyConstants n) is so =
      absurd (not_none so.cause.program f so.cause.spelled is.cause)
  alike (fault.Parse f) (fault.CodeTooLong i w) is so =
      absurd (not_none so.cause.program f so.cause.spelled is.cause)
  alike (fault.Scope f) (fault.Lex g) is so =
      absurd (apart source is.cause.spelled.tokens g is.cause.spelled.are_tokens so.cause)
  alike (fault.Scope f) (fault.Parse g) is so =
      absurd (not_none is.cause.program g is.cause.spelled so.cause)
  alike (fault.Scope f) (fault.Scope g) is so =
      ap (λ (h : ScopeFault). fault.Scope h)
      (same_scope is.cause.program so.cause.program f g is.cause.spelled so.cause.spelled
      is.cause.first so.cause.first)
  alike (fault.Scope f) (fault.TooManyConstants n) is so =
      absurd (not_unscoped so.cause.program is.cause.program f so.cause.spelled is.cause.spelled
      so.cause.scoped is.cause.found)
  alike (fault.Scope f) (fault.CodeTooLong i w) is so =
      absurd (not_unscoped so.cause.program is.cause.program f so.cause.spelled is.cause.spelled
      so.cause.scoped is.cause.found)
  alike (fault.TooManyConstants n) (fault.Lex g) is so =
      absurd (apart source is.cause.spelled.tokens g is.cause.spelled.are_tokens so.cause)
  alike (fault.TooManyConstants n) (fault.Parse g) is so =
      absurd (not_none is.cause.program g is.cause.spelled so.cause)
  alike (fault.TooManyConstants n) (fault.Scope g) is so =
      absurd (not_unscoped is.cause.program so.cause.program g is.cause.spelled so.cause.spelled
      is.cause.scoped so.cause.found)
  alike (fault.TooManyConstants n) (fault.TooManyConstants m) is so =
      ap (λ (count : ℕ). fault.TooManyConstants count)
      (is.cause.needed ∙ ap (λ (r : Program). length (pool r))
      (one_program source is.cause.program so.cause.program is.cause.spelled so.cause.spelled)
      ∙ sym so.cause.needed)
  alike (fault.TooManyConstants n) (fault.CodeTooLong i w) is so =
      absurd (not_many so.cause.program is.cause.program n so.cause.spelled is.cause.spelled
      so.cause.few is.cause.needed is.cause.past)
  alike (fault.CodeTooLong i w) (fault.Lex g) is so =
      absurd (apart source is.cause.spelled.tokens g is.cause.spelled.are_tokens so.cause)
  alike (fault.CodeTooLong i w) (fault.Parse g) is so =
      absurd (not_none is.cause.program g is.cause.spelled so.cause)
  alike (fault.CodeTooLong i w) (fault.Scope g) is so =
      absurd (not_unscoped is.cause.program so.cause.program g is.cause.spelled so.cause.spelled
      is.cause.scoped so.cause.found)
  alike (fault.CodeTooLong i w) (fault.TooManyConstants n) is so =
      absurd (not_many is.cause.program so.cause.program n is.cause.spelled so.cause.spelled
      is.cause.few so.cause.needed so.cause.past)
  alike (fault.CodeTooLong i w) (fault.CodeTooLong j v) is so =
      let same =
      same_long is.cause.program so.cause.program i w j v is.cause.spelled so.cause.spelled
      is.cause.first so.cause.first in
      ap₂ (λ (index wide : ℕ). fault.CodeTooLong index wide) same.0 same.1
