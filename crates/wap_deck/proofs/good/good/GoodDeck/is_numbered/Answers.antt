-- The card of another hash has another id.
use Rattle.std.proofs.Common.{◌≡◌, ◌∙◌, sym, ap, map, ℕ, List, Some}
use Rattle.std.specs.Prelude.{slice_get}
use Rattle.wap_tokens.specs.markup.Cards.{cards_of}
use Rattle.wap_deck.specs.good.inside.Hashes.{id_hash, hashes_in}
use Rattle.wap_deck.proofs.GoodLemmas.HashLaw.{other_card}
use Rattle.wap_deck.proofs.good.good.GoodDeck.is_numbered.Goals as goal

pub returns-then-other-hash : goal.returns-then-other-hash
returns-then-other-hash c =
    let is
    : Some c.in-Some.other.now
    ≡ slice_get (map id_hash (cards_of c.args.self.now)) c.args.number =
    c.in-Some.ensures.value ∙ ap (λ (hashes : List ℕ). slice_get hashes c.args.number)
    (c.self.invariant.hashed ∙ ap hashes_in c.self.view_is) in
    sym (other_card c.args.id.now (cards_of c.args.self.now) c.args.number c.in-Some.other.now is
    (λ same. c.if-other-hash.true (same ∙ sym c.requires)))
