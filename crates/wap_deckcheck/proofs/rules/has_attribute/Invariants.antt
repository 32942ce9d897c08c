use Rattle.std.proofs.Common.{◌≡◌, drop}
use Rattle.std.specs.Prelude.{is_some, find}
use Rattle.std.specs.Option.{option_map}
use Rattle.wap_tokens.specs.markup.Tables.{is_same_attr}
use Rattle.wap_tokens.specs.markup.Good.{has_attribute}
use Rattle.wap_deckcheck.proofs.rules.has_attribute.Given as goal

-- what is left tells it
abbrev pub invariant-loop-attr : goal.invariant-loop-attr
invariant-loop-attr l =
    is_some
    (option_map (λ a. a.1) (find (λ a. is_same_attr a.0 l.name) (drop l.attr-index l.attr-items)))
    ≡ has_attribute l.node l.name
