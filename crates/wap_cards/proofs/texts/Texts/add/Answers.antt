use Rattle.std.proofs.Common.{List, ℕ, ap, ◌∙◌}
use Rattle.std.specs.Prelude.{◌||◌}
use Rattle.std.specs.List.{list_any}
use Rattle.wap_base.specs.Texts.{is_same_text}
use Rattle.wap_cards.proofs.Sets.{found_after}
use Rattle.wap_cards.proofs.texts.Texts.add.Goals as goal

pub returns-clause-ok : goal.returns-clause-ok
returns-clause-ok c = λ one.
    ap (λ (texts : List (List ℕ)). list_any (is_same_text one) texts) c.in_ok-insert.ensures.keys
    ∙ found_after one c.args.text c.self.inside.texts.keys
    ∙ ap (λ (texts : List (List ℕ)).
    is_same_text one c.args.text || list_any (is_same_text one) texts) c.self.view_is
