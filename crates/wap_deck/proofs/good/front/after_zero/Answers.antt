use Rattle.std.proofs.Common.{subst, ℕ, Option}
use Rattle.memchr.specs.Find.{IsFirstByte, is_byte}
use Rattle.wap_deck.proofs.GoodLemmas.Zeros.{after_zero, no_after_zero}
use Rattle.wap_deck.proofs.good.front.after_zero.Goals as goal

pub returns-in-Some : goal.returns-in-Some
returns-in-Some c =
    after_zero c.args.bytes.now c.in-Some.at
    (subst (λ (r : Option ℕ). IsFirstByte (is_byte 0) c.args.bytes.now r) c.in-Some.is
    c.memchr.ensures)

pub returns-in-None : goal.returns-in-None
returns-in-None c =
    no_after_zero c.args.bytes.now
    (subst (λ (r : Option ℕ). IsFirstByte (is_byte 0) c.args.bytes.now r) c.in-None.is
    c.memchr.ensures)
