use Rattle.std.proofs.Common.{◌≡◌, map, drop}
use Rattle.std.specs.List.{list_any}
use Rattle.wap_tokens.specs.markup.Tables.{is_same_attr}
use Rattle.wap_deckcheck.proofs.forms.has_name.Given as goal

-- what is left tells it
abbrev pub invariant-loop-attr : goal.invariant-loop-attr
invariant-loop-attr l =
    list_any (is_same_attr l.name) (map (λ a. a.0) (drop l.attr-index l.attrs))
    ≡ list_any (is_same_attr l.name) (map (λ a. a.0) l.attrs)
