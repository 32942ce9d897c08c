use Rattle.std.proofs.Common.{◌≡◌, take, map}
use Rattle.wap_verify.specs.Kept.{coded_text}
use Rattle.wap_verify.proofs.strings.texts.Given as goal

abbrev pub invariant-loop-constant : goal.invariant-loop-constant
invariant-loop-constant l = l.texts ≡ map (coded_text l.set) (take l.constant-index l.constants)
