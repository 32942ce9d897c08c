use Rattle.std.proofs.Common.{List, ℕ, ap, ◌∙◌}
use Rattle.std.specs.List.{list_any}
use Rattle.wap_base.specs.Texts.{is_same_text}
use Rattle.wap_cards.proofs.Sets.{found_by_order}
use Rattle.wap_cards.proofs.texts.Texts.has.Goals as goal

pub returns : goal.returns
returns c =
    c.contains.ensures ∙ found_by_order c.args.text.now c.self.inside.texts.keys
    ∙ ap (λ (texts : List (List ℕ)). list_any (is_same_text c.args.text.now) texts) c.self.view_is
