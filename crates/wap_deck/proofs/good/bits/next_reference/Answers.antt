use Rattle.wap_deck.proofs.GoodLemmas.Spoken.{reference_utf8, reference_read}
use Rattle.wap_deck.proofs.good.bits.next_reference.Goals as goal

pub text_of-requires : goal.text_of-requires
text_of-requires c =
    reference_utf8 c.args.bytes.now c.in_ok-string.string.now c.in_ok-string.rest.now
    c.in_ok-string.ensures c.args.conv c.requires

pub returns-clause-exact : goal.returns-clause-exact
returns-clause-exact c =
    reference_read c.args.bytes.now c.in_ok-string.string.now c.in_ok-string.rest.now
    c.in_ok-string.ensures c.args.conv c.requires c.text_of.result.now c.text_of.ensures
