use Rattle.std.proofs.Common.{sym, subst}
use Rattle.wap_wbxml.specs.spelling.Spellable.{HasNoZero}
use Rattle.wap_deck.proofs.DocumentsLemmas.Characters.{coded_text}
use Rattle.wap_deck.proofs.good.attrs.next_start.Goals as goal

pub returns-clause-text : goal.returns-clause-text
returns-clause-text c =
    let coded =
    coded_text 0 c.in_ok-mark.mark (c.in_ok-attr.attr, c.in_ok-attr.text.now)
    (sym c.in_ok-attr.ensures.start) in
    subst HasNoZero (sym c.in_ok-attr.ensures.characters) coded.0
