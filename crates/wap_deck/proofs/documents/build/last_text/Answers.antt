use Rattle.std.proofs.Common.{◌∙◌}
use Rattle.wap_deck.proofs.DocumentsLemmas.Joining.{part_after_any}
use Rattle.wap_deck.proofs.documents.build.last_text.Goals as goal

pub returns-in_ok-text_from-in-Some : goal.returns-in_ok-text_from-in-Some
returns-in_ok-text_from-in-Some c =
    λ more. part_after_any c.args.items.now c.pop.new.self c.in-Some.last more c.in-Some.ensures
    ∙ c.in_ok-text_from-in-Some.ensures more
