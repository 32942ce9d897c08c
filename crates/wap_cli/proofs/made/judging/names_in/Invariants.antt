use Rattle.std.proofs.Common.{◌≡◌, take}
use Rattle.wap_base.specs.Contents.{names_of}
use Rattle.wap_cli.proofs.made.judging.names_in.Given as goal

-- the names of the first pages are there
abbrev pub invariant-loop-page : goal.invariant-loop-page
invariant-loop-page l = l.names.items ≡ names_of (take l.page-index l.pages)
