-- What is written of lists of keys that are replayed. This project's own.
use Rattle.std.specs.Prelude.{ℕ, Bool, List, ◌++◌, codes, decimal}
use Rattle.std.specs.List.{flat_map, enumerate_from}
use Rattle.wap_base.specs.Contents.{Contents}
use Rattle.wap_base.specs.declared.key.Key.{Key}
use Rattle.wap_pages.specs.Judged.{judged}
use Rattle.wap_layout.specs.buffer.Written.{lines_bytes}
use Rattle.wap_world.specs.Sessions.{Begun, shown_by}
use Rattle.wap_world.specs.scripting.UnitSites.{unit_pages}
use Rattle.wap_cli.specs.Statuses.{number_of}
use Rattle.wap_cli.specs.browse.Endings.{at_end}
use Rattle.wap_cli.specs.resume.Saving.{opened_at}
use Rattle.wap_cli.specs.Networks.{Network, network_of}

-- the line before a list's transcript: the number of the list, and how its session ended
abbrev pub header : ℕ → Bool → List ℕ
header number is_open =
    codes "% " ++ (decimal number
    ++ (codes " " ++ (decimal (number_of (at_end is_open)) ++ codes "\n")))

-- a numbered list, which is played over the network by a session of its own: its header, and its
-- transcript
abbrev pub list_text : Network → Begun → ℕ × List Key → List ℕ
list_text network begun one =
    let step = opened_at begun network one.1 in
    header one.0 step.is_open ++ lines_bytes (shown_by step)

-- all lists in order, counted from 1
abbrev pub replayed : Network → Begun → List (List Key) → List ℕ
replayed network begun lists = flat_map (list_text network begun) (enumerate_from 1 lists)

-- the network with the pages of a store
abbrev pub network_of_store : Contents → Network
network_of_store contents = network_of (unit_pages (judged contents))
