use Rattle.std.proofs.Common.{◌≡◌, ℕ, List, ◌++◌, length}
use denote.Text.{Utf8}
use denote.Shadow.{shadow}
use Rattle.std.specs.Str.{chars}
use Rattle.wap_libs.specs.Occurrences.{replaced}
use Rattle.wap_libs.specs.texts.Draft.{draft_of}
use Rattle.wap_libs.proofs.texts.occurrences.replace.Given as goal

-- what was made so far, and what is made of the rest, are what is made of the text
abbrev pub invariant-loop-before : goal.invariant-loop-before
invariant-loop-before l =
    shadow (Utf8 l.rest) × ((made : List ℕ) × (l.draft ≡ draft_of l.limit made)
    × (made ++ replaced (chars l.old) (chars l.new) (chars l.rest)
    ≡ replaced (chars l.old) (chars l.new) (chars l.text)))

abbrev pub decreases-loop-before : goal.decreases-loop-before
decreases-loop-before l = length l.rest
