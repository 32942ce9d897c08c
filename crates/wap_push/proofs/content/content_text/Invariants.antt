use Rattle.std.proofs.Common.{◌≡◌, take}
use Rattle.wap_push.specs.Fields.{content_text}
use Rattle.wap_push.proofs.content.content_text.Given as goal

abbrev pub invariant-loop-kid : goal.invariant-loop-kid
invariant-loop-kid l = l.text ≡ content_text (take l.kid-index l.kids)
