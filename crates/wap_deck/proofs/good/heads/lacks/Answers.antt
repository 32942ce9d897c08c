use Rattle.std.proofs.Common.{◌∙◌, ap, bit_and, ℕ}
use Rattle.std.specs.Prelude.{◌==◌}
use Rattle.wap_deck.proofs.GoodLemmas.HeadLaw.{looked_for}
use Rattle.wap_deck.proofs.good.heads.lacks.Goals as goal

pub returns : goal.returns
returns c =
    ap (λ (n : ℕ). bit_and c.args.names n == 0) c.name_mark.ensures
    ∙ looked_for c.args.names c.args.name
