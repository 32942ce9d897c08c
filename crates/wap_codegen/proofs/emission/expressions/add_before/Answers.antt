use Rattle.wap_codegen.proofs.emission.expressions.add_before.Goals as goal

pub returns-in-Some : goal.returns-in-Some
returns-in-Some c = rw c.in-Some.is c.add_with.ensures
