use Rattle.wap_deck.proofs.GoodLemmas.Spoken.{string_there, character_there}
use Rattle.wap_deck.proofs.GoodLemmas.Spoken.{escape_there, unescape_there, plain_there}
use Rattle.wap_deck.proofs.good.bits.next_bit.Goals as goal

pub next_string-requires : goal.next_string-requires
next_string-requires c =
    string_there c.args.bytes.now c.in_ok-mark.mark c.in_ok-mark.rest.now c.requires
    c.in_ok-mark.ensures c.in-3.is

pub next_character-requires : goal.next_character-requires
next_character-requires c =
    character_there c.args.bytes.now c.in_ok-mark.mark c.in_ok-mark.rest.now c.requires
    c.in_ok-mark.ensures c.in-2.is

pub next_reference-requires : goal.next_reference-requires
next_reference-requires c =
    escape_there c.args.bytes.now c.in_ok-mark.mark c.in_ok-mark.rest.now c.requires
    c.in_ok-mark.ensures c.in-64.is

pub next_reference-requires-in-65 : goal.next_reference-requires-in-65
next_reference-requires-in-65 c =
    unescape_there c.args.bytes.now c.in_ok-mark.mark c.in_ok-mark.rest.now c.requires
    c.in_ok-mark.ensures c.in-65.is

pub next_reference-requires-in-66 : goal.next_reference-requires-in-66
next_reference-requires-in-66 c =
    plain_there c.args.bytes.now c.in_ok-mark.mark c.in_ok-mark.rest.now c.requires
    c.in_ok-mark.ensures c.in-66.is
