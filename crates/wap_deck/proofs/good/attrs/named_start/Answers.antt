use Rattle.std.proofs.Common.{refl, ap}
use Rattle.std.specs.List.{list_all}
use Rattle.std.proofs.lemmas.Str.{chars-nil}
use Rattle.wap_tokens.specs.markup.Strings.{is_not_zero}
use Rattle.wap_deck.specs.good.inside.Nodes.{named_at}
use Rattle.wap_deck.proofs.good.attrs.named_start.Goals as goal

pub returns-clause-exact : goal.returns-clause-exact
unfolding named_at
returns-clause-exact c =
    rw (
      c.in_ok-index.ensures,
      ← c.as_slice.ensures,
      ← c.string_from.ensures,
      ← c.in_ok-attr.ensures,
      chars-nil,
    ) refl

pub returns-clause-text : goal.returns-clause-text
returns-clause-text c = ap (list_all is_not_zero) chars-nil
