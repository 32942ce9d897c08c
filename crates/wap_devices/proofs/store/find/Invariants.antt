use Rattle.std.proofs.Common.{◌≡◌, drop}
use Rattle.wap_base.specs.Contents.{page_named}
use Rattle.wap_devices.proofs.store.find.Given as goal

-- the pages passed have other names
abbrev pub invariant-loop-page_name : goal.invariant-loop-page_name
invariant-loop-page_name l =
    page_named l.name (drop l.page_name-index l.pages) ≡ page_named l.name l.pages
