-- What follows from the laws of hosts.
use Rattle.std.proofs.Common.{◌≡◌, ℕ, List, Option, Result, Err, sym, ap, subst}
use Rattle.wap_base.specs.declared.limits.Limits.{Limits}
use Rattle.wap_value.specs.declared.value.Value.{Value}
use Rattle.wap_url.specs.declared.url.Url.{Url}
use Rattle.wap_execution.specs.Outcomes.{Hosting}
use Rattle.wap_machine.specs.Hosts.{Grows, Gives}
use Rattle.wap_execution.specs.laws.Settings.{uncounted}
use Rattle.wap_execution.proofs.LawsLemmas.RunLaws.{Keeps}
use Rattle.wap_machine.proofs.CallLaws.{Grown, grows_same, grows_chained}

-- no run takes a fetch back
pub host_keeps : {S : Type 0} (limits : Limits) (meaning : Hosting S) (fetched : S → Option ℕ)
    → ((before : S) (caller : Url) (url name : List ℕ) (count depth : ℕ)
    → Grows (fetched before) (fetched (meaning.external before caller url name count depth).1))
    → ((before : S) (base : Url) (referer : Option Url) (number index : ℕ) (arguments : List Value)
    → Grows (fetched before)
    (fetched (meaning.library before base referer number index arguments).1))
    → Keeps (uncounted limits meaning) (Grown (uncounted limits meaning) fetched)
host_keeps limits meaning fetched external_grows library_grows = record {
  same = λ state. grows_same (fetched state);
  chained = λ one two three. grows_chained (fetched one) (fetched two) (fetched three);
  ticks = λ function state. grows_same (fetched state);
  external = external_grows;
  library = library_grows;
}

-- a fault is the same of any answer
pub other_fault : (A B : Type 0) {E : Type 0} (fault other : E)
    → ◌≡◌ {A = Result A E} (Err fault) (Err other) → ◌≡◌ {A = Result B E} (Err fault) (Err other)
other_fault A B {E} fault other same =
    let err : E → Result B E = λ e. Err e in
    let is : fault ≡ other = cc in
    ap err is

-- what is told after a call has no fetch less
pub told_grows : {A S : Type 0} (fetched : S → Option ℕ) (means : S → A × S) (old new : S)
    (gave : A) → Gives (means old) gave new → Grows (fetched old) (fetched (means old).1)
    → Grows (fetched old) (fetched new)
told_grows {S = S} fetched means old new gave told grows =
    subst (λ (s : S). Grows (fetched old) (fetched s)) (sym told.stays) grows
