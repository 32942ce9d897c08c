use Rattle.std.proofs.Common.{◌≡◌, drop}
use Rattle.std.specs.List.{list_all}
use Rattle.wap_tokens.specs.markup.Good.{all_have}
use Rattle.wap_deckcheck.specs.Forms.{form_of}
use Rattle.wap_deckcheck.proofs.forms.wrong_in.Given as goal

-- what is left tells it
abbrev pub invariant-loop-row : goal.invariant-loop-row
invariant-loop-row l =
    list_all (λ row. all_have row.0 (form_of row.1) l.node) (drop l.row-index l.rows)
    ≡ list_all (λ row. all_have row.0 (form_of row.1) l.node) l.rows
