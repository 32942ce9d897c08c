use Rattle.wap_mend.specs.declared.change.Change.{Change}
use Rattle.wap_mend.specs.inside.Building.{Filled}
use Rattle.wap_mend.specs.inside.Frames.{load_all, Collects}
use Rattle.std.proofs.Common.{List}
use Rattle.wap_mend.proofs.frame.closing.add_all.Given as goal

-- with those that are left, all are there
abbrev pub invariant-loop-element : goal.invariant-loop-element
invariant-loop-element l = (after : List Change) (content : Filled)
    → Collects l.notes.changes after l.content content (load_all l.element-iterator.rest.items)
    → Collects l.initial.notes.changes after l.initial.content content (load_all l.fn.elements)
