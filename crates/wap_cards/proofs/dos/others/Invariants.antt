use Rattle.std.proofs.Common.{◌≡◌, not, filter, take}
use Rattle.std.specs.List.{list_any}
use Rattle.wap_base.specs.Texts.{is_same_text}
use Rattle.wap_cardrules.specs.Dos.{do_name}
use Rattle.wap_cards.proofs.dos.others.Given as goal

abbrev pub invariant-loop-one : goal.invariant-loop-one
invariant-loop-one l =
    l.others
    ≡ filter (λ one. not (list_any (is_same_text (do_name one)) l.names)) (take l.one-index l.dos)
