use Rattle.std.proofs.Common.{◌≡◌, drop}
use Rattle.std.specs.List.{list_any}
use Rattle.wap_deckcheck.specs.Forms.{words_of}
use Rattle.std.specs.Str.{bytes_eq}
use Rattle.wap_deckcheck.proofs.forms.is_word.Given as goal

-- what is left tells it
abbrev pub invariant-loop-word : goal.invariant-loop-word
invariant-loop-word l =
    list_any (bytes_eq l.text) (words_of (drop l.word-index l.words))
    ≡ list_any (bytes_eq l.text) (words_of l.words)
