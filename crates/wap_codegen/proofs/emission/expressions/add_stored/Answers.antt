use Rattle.wap_codegen.proofs.EmissionLemmas.Chaining.{extends_both}
use Rattle.std.proofs.lemmas.Result.{on_ok_weaker}
use Rattle.wap_codegen.proofs.emission.expressions.add_stored.Goals as goal

pub returns : goal.returns
returns c = on_ok_weaker _ (extends_both c.in_ok-add_with.ensures) c.add_with-2.ensures
