use Rattle.wap_grammar.specs.declared.program.statement.Stmt.TheVariants as stmt
use Rattle.wap_codegen.proofs.EmissionLemmas.Chaining.{extends_same}
use Rattle.wap_codegen.proofs.EmissionLemmas.StatementParts.{by_form}
use Rattle.std.proofs.lemmas.Result.{on_ok_weaker}
use Rattle.wap_codegen.proofs.emission.statements.add_update.Goals as goal

pub returns-in-Some : goal.returns-in-Some
returns-in-Some c =
    rw c.in-Some.is
    (on_ok_weaker _ (extends_same (by_form _ _ (stmt.rolls-Expr _))) c.add_effect.ensures)
