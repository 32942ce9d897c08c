use Rattle.std.proofs.Common.{◌∙◌, ap, sym}
use Rattle.wap_deck.specs.good.inside.Hashes.{hashes_in}
use Rattle.wap_deck.proofs.good.cards.card_places.Goals as goal

pub returns : goal.returns
returns c = record {
  held = c.requires.held;
  noted = c.requires.noted;
  placed = c.in_ok-places.ensures;
  hashed = c.in_ok-hashes.ensures ∙ ap hashes_in (sym c.requires.same);
  templates = c.in_ok-templates.ensures;
}
