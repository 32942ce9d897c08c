use Rattle.std.proofs.Common.{◌≡◌, drop}
use Rattle.std.specs.List.{list_any}
use Rattle.wap_deckcheck.specs.Forms.{words_of}
use Rattle.wap_base.specs.Texts.{is_same_text}
use Rattle.std.proofs.Common.{[]}
use Rattle.wap_deckcheck.proofs.forms.has_empty.Given as goal

-- what is left tells it
abbrev pub invariant-loop-word : goal.invariant-loop-word
invariant-loop-word l =
    list_any (is_same_text []) (words_of (drop l.word-index l.words))
    ≡ list_any (is_same_text []) (words_of l.words)
