use Rattle.std.proofs.Common.{◌≡◌, map, take}
use Rattle.wap_cardrules.specs.Dos.{do_name, label_of}
use Rattle.wap_cards.proofs.dos.active_dos.Given as goal

abbrev pub invariant-loop-one : goal.invariant-loop-one
invariant-loop-one l =
    l.labels ≡ map (λ one. (do_name one, label_of l.vars one)) (take l.one-index l.one-items)
