use Rattle.std.proofs.Common.{◌≡◌, sym, subst, Option, nat_eq, List, ℕ}
use Rattle.std.specs.Prelude.{IfSome}
use Rattle.std.specs.Str.{chars}
use Rattle.wap_push.specs.Tables.{value_rows}
use Rattle.wap_push.proofs.Plain.{chars-value, lent-text}
use Rattle.wap_push.proofs.codes.value_of.Goals as goal

pub returns-clause-value : goal.returns-clause-value
unfolding value_rows
returns-clause-value c = rw c.if-page-ne0.false c.text_beside.ensures

pub returns-clause-characters : goal.returns-clause-characters
unfolding value_rows
returns-clause-characters c =
    lent-text c.text_beside.result
    (subst (λ (s : Option (List ℕ)). IfSome s (λ s. chars s ≡ s)) (sym c.text_beside.ensures)
    (chars-value (nat_eq c.args.code)))
