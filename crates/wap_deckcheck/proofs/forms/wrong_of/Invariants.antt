use Rattle.std.proofs.Common.{◌≡◌, ◌||◌, not, drop}
use Rattle.std.specs.List.{list_all}
use Rattle.wap_tokens.specs.markup.Tables.{is_same_attr}
use Rattle.wap_tokens.specs.markup.Good.{value_has}
use Rattle.wap_deckcheck.specs.Forms.{form_of}
use Rattle.wap_tokens.specs.markup.Trees.{plain_text}
use Rattle.wap_deckcheck.proofs.forms.wrong_of.Given as goal

-- what is left tells it
abbrev pub invariant-loop-attr : goal.invariant-loop-attr
invariant-loop-attr l =
    list_all (λ a. not (is_same_attr a.0 l.name) || value_has (form_of l.form) (plain_text a.1))
    (drop l.attr-index l.attrs)
    ≡ list_all
    (λ a. not (is_same_attr a.0 l.name) || value_has (form_of l.form) (plain_text a.1)) l.attrs
