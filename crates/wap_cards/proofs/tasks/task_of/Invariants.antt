use Rattle.std.proofs.Common.{◌≡◌}
use Rattle.std.specs.Prelude.{find}
use Rattle.std.specs.List.{filter_map}
use Rattle.wap_tokens.specs.markup.Tasks.{is_task}
use Rattle.wap_tokens.specs.markup.Trees.{node_of}
use Rattle.wap_cards.proofs.tasks.task_of.Given as goal

abbrev pub invariant-loop-child : goal.invariant-loop-child
invariant-loop-child l =
    find (λ task. is_task task.tag) (filter_map node_of l.child-iterator)
    ≡ find (λ task. is_task task.tag) (filter_map node_of l.view.kids)
