use Rattle.std.proofs.Common.{◌≡◌, drop}
use Rattle.std.specs.Map.{lookup}
use Rattle.std.specs.Str.{bytes_eq}
use Rattle.wap_keys.specs.words.inside.Reading.{by_name}
use Rattle.wap_keys.proofs.words.word.word_beside.Given as goal

-- what is left has what all have
abbrev pub invariant-loop-row : goal.invariant-loop-row
invariant-loop-row l =
    lookup (bytes_eq l.name) (by_name (drop l.row-index l.rows))
    ≡ lookup (bytes_eq l.name) (by_name l.rows)
