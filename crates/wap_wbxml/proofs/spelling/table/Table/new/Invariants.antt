use Rattle.std.proofs.Common.{◌≡◌, take}
use Rattle.wap_wbxml.specs.spelling.Names.{table_of}
use Rattle.wap_wbxml.specs.spelling.inside.Places.{places_from}
use Rattle.wap_wbxml.proofs.spelling.table.Table.new.Given as goal

abbrev pub invariant-loop-name : goal.invariant-loop-name
invariant-loop-name l =
    (l.bytes ≡ table_of (take l.name-index l.fn.names.keys))
    × (l.places.items ≡ places_from 0 (take l.name-index l.fn.names.keys))
