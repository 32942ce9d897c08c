-- The program of a source has a unit that may be written and run.
use Rattle.std.proofs.Common.{◌≡◌, ℕ, ◌<◌, ◌^◌, List, length, sym, subst}
use Rattle.wap_grammar.specs.declared.program.program.Program.{Program}
use Rattle.wap_scope.specs.Scoped.{IsScoped}
use Rattle.wap_unit.specs.declared.unit.Unit.{Unit as CodeUnit}
use Rattle.wap_unit.specs.Spelling.{HasSpelling}
use Rattle.wap_verify.specs.Sound.{IsVerified}
use Rattle.wap_meaning.specs.compiled.Units.{compiled}
use Rattle.wap_meaning.specs.compiled.Accepted.{IsSourceOf, IsAccepted, HasRoom}
use Rattle.wap_compiled_laws.proofs.Sources.{forms, verified_so}
use Rattle.wap_compiled_laws.proofs.SpellingLemmas.Accepted.{accepted_spelling}
use Rattle.wap_codegen.specs.inside.Units.{AllHaveForms}

-- a source is accepted where its program has room
pub accepted : (src : List ℕ) (p : Program) → length src < 2 ^ 31 → IsSourceOf src p
    → IsScoped p → HasRoom p → IsAccepted src p
accepted src p short spelled scoped room =
    record { short = short; spells = spelled; scoped = scoped; room = room }

-- its functions have forms
pub have_forms : (src : List ℕ) (p : Program) → IsSourceOf src p → IsScoped p → AllHaveForms p
have_forms src p spelled scoped = λ few. forms src p spelled scoped few

-- its unit can be written
pub unit_spelled : (src : List ℕ) (p : Program) → IsAccepted src p → (unit : CodeUnit)
    → unit ≡ compiled p → HasSpelling unit
unit_spelled src p is unit same = subst HasSpelling (sym same) (accepted_spelling src p is)

-- its unit may be run
pub unit_verified : (src : List ℕ) (p : Program) → IsAccepted src p → (unit : CodeUnit)
    → unit ≡ compiled p → IsVerified unit
unit_verified src p is unit same = subst IsVerified (sym same) (verified_so src p is)
