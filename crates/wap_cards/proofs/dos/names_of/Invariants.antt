use Rattle.std.proofs.Common.{◌≡◌, ℕ, List, take}
use Rattle.std.specs.List.{list_any}
use Rattle.wap_base.specs.Texts.{is_same_text}
use Rattle.wap_cardrules.specs.Dos.{has_do}
use Rattle.wap_cards.proofs.dos.names_of.Given as goal

abbrev pub invariant-loop-one : goal.invariant-loop-one
invariant-loop-one l =
    (name : List ℕ)
    → list_any (is_same_text name) l.names ≡ has_do name (take l.one-index l.dos)
