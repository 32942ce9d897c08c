use Rattle.std.proofs.Common.{◌∙◌, sym, refl}
use Rattle.wap_deck.proofs.GoodLemmas.Parted.{bit_some}
use Rattle.wap_deck.proofs.good.run.Run.is_empty.Goals as goal

pub returns-in-Some : goal.returns-in-Some
returns-in-Some c =
    (λ is. absurd cc, λ none. absurd (bit_some _ _ _ c.in-Some.ensures.bit (c.self.view_is ∙ none)))

pub returns-in-None : goal.returns-in-None
returns-in-None c = (λ is. sym c.self.view_is ∙ c.in-None.ensures.bit, λ none. refl)
