use Rattle.wap_codegen.proofs.SourceFaultsLemmas.Alike.{alike}
use Rattle.wap_codegen.proofs.source_faults.sources_have_one_fault.Goals as goal

pub returns : goal.returns
returns c = alike
