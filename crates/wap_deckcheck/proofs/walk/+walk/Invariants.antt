use Rattle.std.proofs.Common.{◌≡◌, ◌-◌, ◌*◌, ◌+◌, ◌++◌, take, drop}
use Rattle.wap_deckcheck.specs.Places.{names_among, node_places, names_level, items_places}
use Rattle.wap_deckcheck.specs.Reached.{HasReached}
use Rattle.wap_deckcheck.specs.inside.Walks.{judged}
use Rattle.wap_deckcheck.proofs.walk.+walk.Given as goal

abbrev pub decreases-judge_item : goal.decreases-judge_item
decreases-judge_item l = 3 * l.levels + 1

abbrev pub decreases-judge_child : goal.decreases-judge_child
decreases-judge_child l = 3 * l.levels + 2

abbrev pub decreases-judge_kids : goal.decreases-judge_kids
decreases-judge_kids l = 3 * l.levels

-- the children so far had no faults
abbrev pub invariant-judge_kids-loop-number : goal.invariant-judge_kids-loop-number
invariant-judge_kids-loop-number l = record {
  path : l.walk.path ≡ l.initial.walk.path;
  names : l.walk.names
      ≡ l.initial.walk.names ++ names_among l.apart l.levels (take l.number l.kids);
  reached : HasReached l.rule (take l.number l.kids) l.reached;
  faults : judged (items_places
      (names_level (node_places (l.levels - 1) l.apart) l.apart l.levels l.initial.walk.names)
      l.initial.walk.path l.rule (take l.number l.kids) (drop l.number l.kids))
      ≡ judged (node_places l.levels l.apart l.initial.walk.names l.initial.walk.path l.node);
}
