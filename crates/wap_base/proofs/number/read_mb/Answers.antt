use Rattle.std.proofs.Common.{◌≡◌, ◌∙◌, sym, ap, ℕ, List, Ok, Err, Result}
use Rattle.std.specs.Prelude.{IfOk}
use Rattle.wap_base.specs.declared.number.ReadFault.{ReadFault}
use Rattle.wap_base.specs.declared.number.ReadFault.TheVariants.{Short, TooLong}
use Rattle.wap_base.specs.Numbers.{ReadsMb, mb_at}
use Rattle.wap_base.proofs.NumberLaws.{mb_takes, mb_again, mb_stops_short, mb_fails_short}
use Rattle.wap_base.proofs.NumberLaws.{mb_stops_over, mb_fails_over}
use Rattle.wap_base.proofs.number.read_mb.Goals as goal

found : (input : List ℕ) (place : ℕ) (read : Result (ℕ × ℕ) ReadFault) → read ≡ mb_at input place
    → IfOk read (λ r. ReadsMb input place r.0 r.1)
found input place (Ok r) is = mb_takes input place r.0 r.1 (sym is)
found input place (Err fault) is = tt

pub returns-clause-found : goal.returns-clause-found
returns-clause-found c = found c.args.bytes.now c.args.at c.mb_from.result c.mb_from.ensures

pub returns-clause-only : goal.returns-clause-only
returns-clause-only c =
    λ number next reads. c.mb_from.ensures ∙ mb_again c.args.bytes.now c.args.at number next reads

pub returns-clause-short : goal.returns-clause-short
returns-clause-short c = λ place. (
  λ e. mb_stops_short c.args.bytes.now c.args.at place (sym c.mb_from.ensures ∙ e),
  λ ends. c.mb_from.ensures ∙ mb_fails_short c.args.bytes.now c.args.at ends.0
      ∙ ap (λ (n : ℕ). Err (Short n)) (sym ends.1),
)

pub returns-clause-too_long : goal.returns-clause-too_long
returns-clause-too_long c = λ place. (
  λ e. mb_stops_over c.args.bytes.now c.args.at place (sym c.mb_from.ensures ∙ e),
  λ long. c.mb_from.ensures ∙ mb_fails_over c.args.bytes.now c.args.at long.0
      ∙ ap (λ (n : ℕ). Err (TooLong n)) (sym long.1),
)
