use Rattle.std.proofs.Common.{◌≡◌, ◌&&◌, drop}
use Rattle.std.specs.List.{list_all}
use Rattle.wap_base.specs.Charsets.{is_ascii}
use Rattle.wap_base.proofs.charset.is_ascii.Given as goal

abbrev pub invariant-loop-byte : goal.invariant-loop-byte
invariant-loop-byte l =
    (l.all && list_all is_ascii (drop l.byte-index l.bytes)) ≡ list_all is_ascii l.bytes
