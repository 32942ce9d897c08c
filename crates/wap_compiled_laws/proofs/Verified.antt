-- The unit of a program may be run.
use Rattle.std.proofs.Common.{◌≡◌, ℕ, Option, Some, None, refl, sym, ◌∙◌, subst, slice_get}
use Rattle.std.proofs.lemmas.Option.{same_Some}
use Rattle.wap_unit.specs.declared.unit.Code.{Code}
use Rattle.wap_grammar.specs.declared.program.program.Function.{Function}
use Rattle.wap_grammar.specs.declared.program.program.Program.{Program}
use Rattle.wap_scope.specs.Scoped.{IsScoped}
use Rattle.wap_compiled_laws.proofs.RunnableLemmas.Whole.{sound}
use Rattle.wap_verify.specs.Sound.{IsSound, IsVerified}
use Rattle.wap_meaning.specs.compiled.Pool.{pool}
use Rattle.wap_meaning.specs.compiled.Units.{compiled}
use Rattle.wap_meaning.specs.compiled.Accepted.{HasRoom}
use Rattle.wap_compiled_laws.proofs.Functions.{AllTake, in_uses, compiled_is}
use Rattle.wap_compiled_laws.proofs.Pragmas.{no_stray}

pub verified : (p : Program) → IsScoped p → AllTake p → HasRoom p → IsVerified (compiled p)
unfolding compiled
verified p scoped takes room = record {
  pragmas = no_stray (compiled p) (pool p) (record { constants = refl; charset = refl }) p.uses refl
      (in_uses p);
  functions = λ index code less here. by index code here (slice_get p.functions index) refl;
}
  where
    by : (index : ℕ) (code : Code) → slice_get (compiled p).functions index ≡ Some code
        → (o : Option Function) → slice_get p.functions index ≡ o
        → IsSound (compiled p) index code
    by index code here None at =
        absurd (let none = (compiled_is scoped takes room).none index at in cc (here, none))
    by index code here (Some f) at =
        let found = (compiled_is scoped takes room).some index f at in
        let same : found.0 ≡ code = same_Some found.0 code (sym found.1 ∙ here) in
        subst (IsSound (compiled p) index) same (sound found.2)
