use Rattle.std.proofs.Common.{◌≡◌, ℕ, List, take}
use Rattle.std.specs.List.{list_any}
use Rattle.wap_base.specs.Texts.{is_same_text}
use Rattle.wap_cards.proofs.inputs.choices.texts_of.Given as goal

abbrev pub invariant-loop-text : goal.invariant-loop-text
invariant-loop-text l =
    (one : List ℕ)
    → list_any (is_same_text one) l.some ≡ list_any (is_same_text one) (take l.text-index l.texts)
