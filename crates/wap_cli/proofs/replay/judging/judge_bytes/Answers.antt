use Rattle.std.proofs.Common.{Err, sym, ap}
use Rattle.wap_unit.proofs.UnitLaws.{are_bytes}
use Rattle.wap_pages.specs.declared.fault.PageErr.{PageErr}
use Rattle.wap_cli.proofs.replay.judging.judge_bytes.Goals as goal

-- a page that is refused for a fault is a refused one
pub returns-in-Err-Refused : goal.returns-in-Err-Refused
returns-in-Err-Refused c =
    let why = c.in-Err-Refused.field-0-0 in
    sym ((c.refused_pages_have_faults.ensures.some c.args.name.now c.args.bytes.now
    (are_bytes c.args.bytes.now (λ i. (c.type_inv.bytes i).fits)) c.requires).1 (
      why,
      c.in-Err-Refused.ensures.refused why
          (ap (λ (e : PageErr). Err e) c.in-Err-Refused.field-0-is),
    ))
