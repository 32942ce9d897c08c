use Rattle.std.proofs.Common.{◌≡◌, is_some, filter, drop}
use Rattle.std.specs.Prelude.{find}
use Rattle.wap_base.specs.Texts.{is_same_text}
use Rattle.wap_tokens.specs.markup.Tasks.{task_of}
use Rattle.wap_cardrules.specs.Dos.{do_name}
use Rattle.wap_cards.proofs.dos.find_active.Given as goal

-- what is left has the same first one
abbrev pub invariant-loop-one : goal.invariant-loop-one
invariant-loop-one l =
    find (λ one. is_same_text l.name (do_name one))
    (filter (λ one. is_some (task_of one)) (drop l.one-index l.dos))
    ≡ find (λ one. is_same_text l.name (do_name one)) (filter (λ one. is_some (task_of one)) l.dos)
