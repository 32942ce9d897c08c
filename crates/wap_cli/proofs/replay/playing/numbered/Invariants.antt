use Rattle.std.proofs.Common.{◌≡◌}
use Rattle.std.specs.List.{enumerate_from}
use Rattle.wap_cli.proofs.replay.playing.numbered.Given as goal

-- the lists so far have their numbers
abbrev pub invariant-loop-list : goal.invariant-loop-list
invariant-loop-list l = l.jobs.items ≡ enumerate_from 1 l.yielded
