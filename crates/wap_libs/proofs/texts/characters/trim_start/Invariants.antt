use Rattle.std.proofs.Common.{◌≡◌, length}
use denote.Text.{Utf8}
use denote.Shadow.{shadow}
use Rattle.std.specs.Str.{chars}
use Rattle.wap_libs.specs.Characters.{behind_blanks}
use Rattle.wap_libs.proofs.texts.characters.trim_start.Given as goal

abbrev pub invariant-loop-character : goal.invariant-loop-character
invariant-loop-character l =
    shadow (Utf8 l.rest) × (behind_blanks (chars l.rest) ≡ behind_blanks (chars l.text))

abbrev pub decreases-loop-character : goal.decreases-loop-character
decreases-loop-character l = length l.rest
