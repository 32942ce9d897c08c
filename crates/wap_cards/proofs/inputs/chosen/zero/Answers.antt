use Rattle.std.proofs.Common.{refl, codes, ◌≡◌, List, ℕ, subst}
use Rattle.std.specs.Result.{IfOk}
use Rattle.wap_base.proofs.Plain.{chars-plain}
use Rattle.wap_cards.proofs.inputs.chosen.zero.Goals as goal

pub returns : goal.returns
returns c = subst (λ (word : List ℕ). IfOk c.of.result (λ text. text ≡ word))
    (chars-plain (codes "0") refl) c.of.ensures
