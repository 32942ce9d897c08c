use Rattle.std.proofs.Common.{ap, List, ℕ}
use Rattle.std.specs.List.{list_all}
use Rattle.std.proofs.lemmas.Str.{chars-nil}
use Rattle.wap_tokens.specs.markup.Strings.{is_not_zero}
use Rattle.wap_deck.specs.good.Texts.{value_at}
use Rattle.wap_deck.proofs.good.run.Run.text.Goals as goal

pub returns : goal.returns
returns c = ap (λ (l : List ℕ). value_at l c.args.bytes.now) chars-nil

pub invariant_of-result : goal.invariant_of-result
invariant_of-result c =
    record { text = ap (list_all is_not_zero) chars-nil; parts = c.requires }
