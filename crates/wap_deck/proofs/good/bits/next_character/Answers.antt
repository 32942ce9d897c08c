use Rattle.std.proofs.Common.{◌∙◌, sym, ap, Some, List, ℕ, Option, [], ◌∷◌}
use Rattle.wap_base.specs.declared.name.Part.{Part}
use Rattle.wap_base.specs.declared.name.Part.TheVariants.{Lit}
use Rattle.wap_deck.proofs.GoodLemmas.Spoken.{character_read}
use Rattle.wap_deck.proofs.good.bits.next_character.Goals as goal

pub returns-clause-exact : goal.returns-clause-exact
returns-clause-exact c =
    character_read c.args.bytes.now c.requires
    ∙ ap (λ (rest : List ℕ). let read : Option (Part × List ℕ) = Some (Lit (0 ∷ []), rest) in read)
    (sym c.after_first.ensures)
