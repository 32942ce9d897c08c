use Rattle.std.proofs.Common.{◌≡◌, map, drop, Some}
use Rattle.std.specs.Prelude.{encode_utf8_all}
use Rattle.wap_keys.specs.words.Arguments.{with_words, nothing_read}
use Rattle.wap_keys.specs.words.inside.Reading.{form_by, read_by}
use Rattle.wap_keys.proofs.words.arguments.uses_of.Given as goal

-- what is left comes to what all come to
abbrev pub invariant-loop-word : goal.invariant-loop-word
invariant-loop-word l =
    with_words (form_by l.form) (Some (read_by l.read))
    (map encode_utf8_all (drop l.word-index l.words))
    ≡ with_words (form_by l.form) (Some nothing_read) (map encode_utf8_all l.words)
