use Rattle.std.proofs.Common.{◌≡◌, drop}
use Rattle.wap_push.specs.Fields.{first_of}
use Rattle.wap_push.proofs.fields.first_of.Given as goal

-- what is left has what all have
abbrev pub invariant-loop-attr : goal.invariant-loop-attr
invariant-loop-attr l = first_of l.name (drop l.attr-index l.attrs) ≡ first_of l.name l.attrs
