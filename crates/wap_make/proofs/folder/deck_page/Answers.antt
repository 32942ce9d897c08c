use Rattle.std.proofs.Common.{sym, subst}
use Rattle.wap_tokens.specs.declared.markup.deck.Deck.{Deck}
use Rattle.wap_tokens.specs.markup.Writing.{document_of}
use Rattle.wap_wbxml.specs.spelling.Spellable.{IsSpellable}
use Rattle.wap_make.specs.Folders.{deck_of}
use Rattle.wap_make.proofs.Normal.{made_is_normal, root_known}
use Rattle.wap_make.proofs.folder.deck_page.Goals as goal

pub spell-requires : goal.spell-requires
spell-requires c =
    subst (λ (deck : Deck). IsSpellable (document_of deck)) (sym c.in_ok-deck.ensures)
    (c.decks_are_spellable.ensures.spellable (deck_of c.args.n c.args.k)
    (made_is_normal c.args.n c.args.k) (root_known c.args.n c.args.k))
