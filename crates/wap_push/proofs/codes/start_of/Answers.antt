use Rattle.std.proofs.Common.{◌≡◌, sym, subst, Option, nat_eq}
use Rattle.std.specs.Prelude.{IfSome}
use Rattle.std.specs.Str.{chars}
use Rattle.wap_push.specs.Tables.{Start, start_rows}
use Rattle.wap_push.proofs.Plain.{chars-start, lent-start}
use Rattle.wap_push.proofs.codes.start_of.Goals as goal

pub returns-clause-start : goal.returns-clause-start
unfolding start_rows
returns-clause-start c = rw c.if-page-ne0.false c.start_beside.ensures

pub returns-clause-characters : goal.returns-clause-characters
unfolding start_rows
returns-clause-characters c =
    lent-start c.start_beside.result
    (subst (λ (s : Option Start). IfSome s (λ s. chars s.1 ≡ s.1)) (sym c.start_beside.ensures)
    (chars-start (nat_eq c.args.code)))
