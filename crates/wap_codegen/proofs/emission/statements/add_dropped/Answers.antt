use Rattle.wap_codegen.proofs.EmissionLemmas.Chaining.{extends_both}
use Rattle.std.proofs.lemmas.Result.{on_ok_weaker}
use Rattle.wap_codegen.proofs.emission.statements.add_dropped.Goals as goal

pub returns : goal.returns
returns c = on_ok_weaker _ (extends_both c.in_ok-add_expression.ensures) c.add_plain.ensures
