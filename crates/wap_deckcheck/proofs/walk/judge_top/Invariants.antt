use Rattle.std.proofs.Common.{◌≡◌, [], take, drop}
use Rattle.wap_tokens.specs.markup.Good.{rule_of}
use Rattle.wap_deckcheck.specs.Places.{ids_among, ids_level, items_places}
use Rattle.wap_deckcheck.specs.Reached.{HasReached}
use Rattle.wap_deckcheck.specs.inside.Walks.{judged}
use Rattle.wap_deckcheck.proofs.walk.judge_top.Given as goal

-- the children so far had no faults
abbrev pub invariant-loop-number : goal.invariant-loop-number
invariant-loop-number l = record {
  path : l.walk.path ≡ [];
  names : l.walk.names ≡ ids_among (take l.number l.kids);
  reached : HasReached l.rule (take l.number l.kids) l.reached;
  faults : judged (items_places ids_level [] l.rule (take l.number l.kids) (drop l.number l.kids))
      ≡ judged (items_places ids_level [] (rule_of l.root.tag) [] l.root.kids);
}
