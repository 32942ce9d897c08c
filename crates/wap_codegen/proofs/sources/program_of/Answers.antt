use Rattle.std.proofs.Common.{sym, subst}
use Rattle.wap_codegen.specs.Faults.{IsCompileFault, IsPlain}
use Rattle.wap_codegen.proofs.Causes.{parse_cause}
use Rattle.wap_codegen.proofs.Plain.{plain_parse}
use Rattle.wap_codegen.proofs.sources.program_of.Goals as goal

pub returns-in-Err-clause-fault : goal.returns-in-Err-clause-fault
returns-in-Err-clause-fault c =
    subst (IsCompileFault c.args.src.now) (sym c.from.ensures)
    (parse_cause c.args.src.now c.args.tokens.now c.requires c.in-Err.fault c.in-Err.ensures.only
    c.in-Err.ensures.syntax c.in-Err.ensures.nested c.in-Err.ensures.first
    c.in-Err.ensures.reads)

pub returns-in-Err-clause-plain : goal.returns-in-Err-clause-plain
returns-in-Err-clause-plain c =
    subst IsPlain (sym c.from.ensures) (plain_parse c.in-Err.fault)
