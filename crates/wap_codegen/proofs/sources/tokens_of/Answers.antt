use Rattle.std.proofs.Common.{sym, subst}
use Rattle.wap_codegen.specs.Faults.{IsPlain}
use Rattle.wap_codegen.proofs.Plain.{plain_lex}
use Rattle.wap_codegen.proofs.sources.tokens_of.Goals as goal

pub returns-in-Err-clause-plain : goal.returns-in-Err-clause-plain
returns-in-Err-clause-plain c =
    subst IsPlain (sym c.from.ensures) (plain_lex c.in-Err.fault)
