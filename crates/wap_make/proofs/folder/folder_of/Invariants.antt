use Rattle.std.proofs.Common.{◌≡◌, map}
use Rattle.std.specs.List.{range_with_len}
use Rattle.wap_make.specs.Folders.{deck_page}
use Rattle.wap_make.proofs.folder.folder_of.Given as goal

abbrev pub invariant-loop-k : goal.invariant-loop-k
invariant-loop-k l = l.pages.items ≡ map (deck_page l.n) (range_with_len 0 l.k)
