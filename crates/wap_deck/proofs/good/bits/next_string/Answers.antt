use Rattle.wap_deck.proofs.GoodLemmas.Spoken.{string_utf8, string_read, string_kind}
use Rattle.wap_deck.proofs.good.bits.next_string.Goals as goal

pub text_of-requires : goal.text_of-requires
text_of-requires c =
    string_utf8 c.args.bytes.now c.in_ok-string.string.now c.in_ok-string.rest.now
    c.in_ok-string.ensures c.requires

pub returns-clause-kind : goal.returns-clause-kind
returns-clause-kind c =
    string_kind c.args.bytes.now c.in_ok-string.string.now c.in_ok-string.rest.now
    c.in_ok-string.ensures c.requires c.text_of.result.now c.text_of.ensures

pub returns-clause-exact : goal.returns-clause-exact
returns-clause-exact c =
    string_read c.args.bytes.now c.in_ok-string.string.now c.in_ok-string.rest.now
    c.in_ok-string.ensures c.requires c.text_of.result.now c.text_of.ensures
