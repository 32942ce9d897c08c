use Rattle.std.proofs.Common.{sym, subst, List, ℕ}
use Rattle.wap_deck.specs.good.inside.Notes.{IsHead}
use Rattle.wap_deck.proofs.GoodLemmas.Ending.{first_is}
use Rattle.wap_deck.proofs.GoodLemmas.HeadLaw.{nothing_known}
use Rattle.wap_deck.proofs.good.heads.known_at.Goals as goal

pub returns-in-Some : goal.returns-in-Some
returns-in-Some c =
    let known = c.known_by_mark.result in
    subst (λ (l : List ℕ). IsHead l known.names known.head)
    (sym (first_is c.args.bytes.now c.in-Some.mark c.in-Some.field-0-1.now c.in-Some.ensures))
    (c.known_by_mark.ensures c.in-Some.field-0-1.now)

pub returns-in-None : goal.returns-in-None
returns-in-None c =
    rw (c.known_with.ensures.names, c.known_with.ensures.head)
    (nothing_known c.args.bytes.now c.in-None.ensures)
