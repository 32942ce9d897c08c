use Rattle.std.proofs.Common.{◌∙◌, sym, ap, Err, refl}
use Rattle.wap_explain.proofs.Unmended.{never_good, unmended}
use Rattle.wap_explain.proofs.mending.mend_bytes.Goals as goal

pub returns-in-Err : goal.returns-in-Err
returns-in-Err g c =
    record {
      good = λ is. absurd (never_good c.in-Err.fault (sym c.ending_of.ensures ∙ is));
      refused =
          λ fault is. (
            unmended c.args.bytes.now c.in-Err.fault fault
                (λ of why. c.in-Err.ensures.document of (ap Err why))
                (λ why. c.in-Err.ensures.no_card (ap Err why))
                (sym c.ending_of.ensures ∙ is),
            refl,
          );
    }
