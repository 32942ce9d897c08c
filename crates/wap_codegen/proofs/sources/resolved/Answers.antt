use Rattle.std.proofs.Common.{sym, subst}
use Rattle.wap_codegen.specs.Faults.{IsPlain}
use Rattle.wap_codegen.proofs.Plain.{plain_scope}
use Rattle.wap_codegen.proofs.sources.resolved.Goals as goal

pub returns-clause-plain : goal.returns-clause-plain
returns-clause-plain c =
    subst IsPlain (sym c.from.ensures) (plain_scope c.in-Err.fault)
