use Rattle.std.proofs.Common.{◌≡◌, ◌++◌, is_some, filter, take}
use Rattle.wap_tokens.specs.markup.Tasks.{task_of}
use Rattle.wap_cards.proofs.dos.add_active.Given as goal

abbrev pub invariant-loop-one : goal.invariant-loop-one
invariant-loop-one l =
    l.active ≡ l.initial.active ++ filter (λ one. is_some (task_of one)) (take l.one-index l.dos)
