use Rattle.std.proofs.Common.{◌≡◌, ◌≤◌, take, length}
use Rattle.wap_world.specs.site.Asking.{MayBe, Stays}
use Rattle.wap_world.specs.site.Pages.{Pages}
use Rattle.wap_cli.specs.made.inside.Counting.{accepted_in}
use Rattle.wap_cli.proofs.made.judging.count_accepted.Given as goal

-- the pages of the first names were counted
abbrev pub invariant-loop-name : goal.invariant-loop-name
invariant-loop-name g l = record {
  count : (known : Pages) → MayBe (g.P.Pages.seen l.pages) known
      → l.count ≡ length (accepted_in known (take l.name-index l.names));
  few : l.count ≤ l.name-index;
  stays : Stays (g.P.Pages.seen l.fn.pages) (g.P.Pages.seen l.pages);
}
