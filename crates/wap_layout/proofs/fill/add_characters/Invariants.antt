use Rattle.std.proofs.Common.{◌≡◌, ◌++◌, ◌≤◌, [], List, ℕ, length, drop}
use Rattle.std.specs.Str.{chars}
use Rattle.wap_layout.specs.Calculation.{cut_word, fill}
use Rattle.wap_layout.proofs.fill.add_characters.Given as goal

abbrev pub invariant-loop-character : goal.invariant-loop-character
invariant-loop-character l =
    ((more : List (List ℕ))
    → l.lines
    ++ fill l.width [] (cut_word l.width (l.part ++ drop (length l.yielded) (chars l.word)) ++ more)
    ≡ l.initial.lines ++ fill l.width [] (cut_word l.width (chars l.word) ++ more))
    × (l.columns ≡ length l.part) × (l.columns ≤ l.width)
