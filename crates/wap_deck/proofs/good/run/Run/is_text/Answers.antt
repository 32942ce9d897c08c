use Rattle.std.proofs.Common.{◌≡◌, ◌∙◌, sym, ap, List, ℕ}
use Rattle.wap_base.specs.declared.name.Part.{Part}
use Rattle.wap_tokens.specs.markup.Trees.{plain_text}
use Rattle.wap_deck.specs.good.Runs.{part_of, is_utf8_of}
use Rattle.wap_deck.proofs.GoodLemmas.Compared.{by_bytes, stepped, missed}
use Rattle.wap_deck.proofs.good.run.Run.is_text.Goals as goal

pub loop-bit-init : goal.loop-bit-init
loop-bit-init c =
    let same : c.into_iter-bit-iterator.result ≡ c.args.self.now = cc in
    by_bytes c.args.text.now (plain_text c.args.self.now)
    ∙ ap (λ (l : List ℕ). is_utf8_of l (plain_text c.args.self.now))
    (sym (c.as_bytes-left.ensures.value ∙ c.as_str.ensures.bytes))
    ∙ ap (λ (v : List Part). is_utf8_of c.as_bytes-left.result.now (plain_text v)) (sym same)

pub loop-bit-preserved : goal.loop-bit-preserved
loop-bit-preserved c =
    c.loop-bit.invariant
    ∙ stepped (part_of c.in-Some.bit) c.loop-bit.left.now c.in-Some-rest_after.rest
    c.loop-bit.bit-iterator c.next.new.self c.in-Some.ensures.steps.together
    c.in-Some-rest_after.ensures

pub returns-in-None-rest_after : goal.returns-in-None-rest_after
returns-in-None-rest_after c =
    sym (c.loop-bit.invariant ∙ missed (part_of c.in-Some.bit) c.loop-bit.left.now
    c.loop-bit.bit-iterator c.next.new.self c.in-Some.ensures.steps.together
    c.in-None-rest_after.ensures)
