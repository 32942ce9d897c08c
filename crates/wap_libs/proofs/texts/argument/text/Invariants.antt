use Rattle.std.proofs.Common.{◌≡◌, take}
use Rattle.wap_libs.proofs.texts.argument.text.Given as goal

abbrev pub invariant-loop-character : goal.invariant-loop-character
invariant-loop-character l = l.text ≡ take l.character-index l.characters
