use Rattle.std.proofs.Common.{◌≡◌, map, drop}
use Rattle.wap_keys.specs.words.Arguments.{text_of}
use Rattle.wap_keys.specs.words.inside.Reading.{use_by}
use Rattle.wap_keys.proofs.words.arguments.text_of.Given as goal

-- what is left has what all have
abbrev pub invariant-loop-one : goal.invariant-loop-one
invariant-loop-one l =
    text_of l.name (map use_by (drop l.one-index l.uses)) ≡ text_of l.name (map use_by l.uses)
