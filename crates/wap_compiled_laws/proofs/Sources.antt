-- The unit of an accepted source's program: it is compiled, it agrees, and it may be run.
use Rattle.std.proofs.Common.{ℕ, ◌≤◌, List, length, arith}
use Rattle.std.specs.List.{All}
use Rattle.wap_asm.proofs.PlacedLaws.{is_placed}
use Rattle.wap_grammar.specs.declared.program.program.Function.{Function}
use Rattle.wap_grammar.specs.declared.program.program.Program.{Program}
use Rattle.wap_grammar.specs.declared.precedence.TheConstants.{LEVEL_LIMIT}
use Rattle.wap_scope.specs.Scoped.{IsScoped}
use Rattle.wap_scope.proofs.AcceptedLemmas.Places.{all_by_places}
use Rattle.wap_meaning.specs.coding.Compiled.{IsCompiled}
use Rattle.wap_compiled_laws.proofs.BodiesLemmas.Functions as functions
use Rattle.wap_verify.specs.Sound.{IsVerified}
use Rattle.wap_meaning.proofs.NeedsLemmas.Operators.{operators}
use Rattle.wap_meaning.specs.compiled.Pool.{pool}
use Rattle.wap_meaning.specs.compiled.Units.{forms_of, compiled_function, compiled}
use Rattle.wap_meaning.specs.compiled.Wide.{function_wide}
use Rattle.wap_meaning.specs.compiled.Accepted.{IsSourceOf, IsAccepted}
use Rattle.wap_compiled_laws.specs.Laws.{HasForms, HasCode, AgreeWithSources}
use Rattle.wap_compiled_laws.proofs.Functions.{AllTake, Among, wide_exact, placeable, one_of}
use Rattle.wap_compiled_laws.proofs.Functions.{saves_few, compiled_is}
use Rattle.wap_compiled_laws.proofs.Verified.{verified}

-- the operators of a source's assignments take both values
all_take : (source : List ℕ) (p : Program) → IsSourceOf source p → AllTake p
all_take source p is = operators source is.tokens p (LEVEL_LIMIT, is.spells)

-- what holds of each function of a program holds of all
all_functions : (p : Program) (P : Function → Type 0) → ((f : Function) → Among p f → P f)
    → All P p.functions
all_functions p P each =
    all_by_places P p.functions (λ earlier f later is.
    each f (record { earlier = earlier; later = later; functions = is }))

pub forms : (source : List ℕ) (p : Program) → IsSourceOf source p → IsScoped p
    → length (pool p) ≤ 65536 → All (HasForms p) p.functions
forms source p is scoped few =
    all_functions p (HasForms p) (λ f among. record {
      placeable = placeable p scoped (all_take source p is) few f among;
      size = wide_exact p scoped (all_take source p is) few f among;
      few = saves_few p scoped (all_take source p is) few f among;
    })

pub code : (source : List ℕ) (p : Program) → IsAccepted source p → All (HasCode p) p.functions
unfolding compiled_function
code source p is =
    let takes = all_take source p is.spells in
    let few = is.room.constants in
    all_functions p (HasCode p) (λ f among.
    let size = wide_exact p is.scoped takes few f among in
    let less = one_of p is.scoped takes few f among (λ (f : Function). function_wide f ≤ 65535)
    is.room.code in
    let splits = is_placed (forms_of p f) (placeable p is.scoped takes few f among)
    (omega (arith, size, less)) in
    record {
      splits = splits;
      short = omega (arith, size, splits.no_longer);
    })

pub compiled_so : (source : List ℕ) (p : Program) → IsAccepted source p → IsCompiled p (compiled p)
compiled_so source p is = compiled_is is.scoped (all_take source p is.spells) is.room

pub agree : (S : Type 0) → AgreeWithSources S
agree S = record {
  functions = λ source p is base referer index string call give arguments turns state.
      (functions.agrees S).functions p (record {
        unit = compiled p;
        base = base;
        referer = referer;
        index = index;
      }) (compiled_so source p is) string call give arguments turns state;
}

pub verified_so : (source : List ℕ) (p : Program) → IsAccepted source p → IsVerified (compiled p)
verified_so source p is = verified p is.scoped (all_take source p is.spells) is.room
