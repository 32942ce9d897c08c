use Rattle.std.proofs.Common.{ℕ, Option, subst}
use Rattle.memchr.specs.Find.{IsFirstByte, is_byte}
use Rattle.wap_deck.proofs.GoodLemmas.Zeros.{ended_there, never_ended}
use Rattle.wap_deck.proofs.good.front.split_at_zero.Goals as goal

pub returns-in-Some : goal.returns-in-Some
returns-in-Some c =
    ended_there c.args.bytes.now c.in-Some.at
    (subst (λ (r : Option ℕ). IsFirstByte (is_byte 0) c.args.bytes.now r) c.in-Some.is
    c.memchr.ensures)

pub returns-in-None : goal.returns-in-None
returns-in-None c =
    never_ended c.args.bytes.now
    (subst (λ (r : Option ℕ). IsFirstByte (is_byte 0) c.args.bytes.now r) c.in-None.is
    c.memchr.ensures)
