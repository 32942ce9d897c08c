use Rattle.std.proofs.Common.{rules, ◌∙◌, sym, subst, List}
use Rattle.std.specs.Str.{chars}
use Rattle.wap_base.specs.declared.name.Part.{Part}
use Rattle.wap_deck.specs.good.Texts.{value_at}
use Rattle.wap_deck.specs.good.Runs.{IsFirstBit}
use Rattle.wap_deck.proofs.GoodLemmas.Parted.{size_less}
use Rattle.wap_deck.proofs.good.run.RunIterator.next.Goals as goal

pub returns-in_err-bit-clause-steps : goal.returns-in_err-bit-clause-steps
returns-in_err-bit-clause-steps c =
    let none = sym c.self.view_is ∙ c.in_err-bit.ensures.bit in
    search rules

pub returns-clause-steps : goal.returns-clause-steps
returns-clause-steps c =
    let bit = c.in_ok-bit.bit in
    let old = value_at (chars c.self.inside.begun.now) c.self.inside.bytes.now in
    subst (λ (rest : List Part). IsFirstBit c.args.self.now bit rest) (sym c.self-2.view_is)
    (subst (λ (parts : List Part). IsFirstBit parts bit c.text.result) c.self.view_is
    (subst (λ (rest : List Part). IsFirstBit old bit rest)
    (sym c.text.ensures) c.in_ok-bit.ensures.bit))

pub returns-clause-goes : goal.returns-clause-goes
returns-clause-goes c =
    let less = size_less c.args.self.now c.in_ok-bit.bit _ (returns-clause-steps c) in
    search rules

pub text-requires : goal.text-requires
text-requires c = c.in_ok-bit.ensures.rest
