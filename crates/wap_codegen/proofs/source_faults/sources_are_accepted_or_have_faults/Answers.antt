use Rattle.std.proofs.Common.{inl, inr}
use Rattle.wap_codegen.proofs.SourceFaultsLemmas.Finding.{found}
use Rattle.wap_codegen.proofs.SourceFaultsLemmas.Alike.{accepted_apart}
use Rattle.wap_codegen.proofs.source_faults.sources_are_accepted_or_have_faults.Goals as goal

pub returns-clause-none : goal.returns-clause-none
returns-clause-none c = λ source p why is. accepted_apart source p why is

pub returns-clause-some : goal.returns-clause-some
returns-clause-some c = λ source short never. elim (found source short) [
  | inl accepted ↦ absurd (never accepted.0 accepted.1)
  | inr refused ↦ refused
]
