use Rattle.std.proofs.Common.{◌≡◌, ◌+◌, ◌-◌, ◌++◌, List, length, map, take, drop}
use Rattle.wap_asm.specs.declared.form.Form.{Form}
use Rattle.wap_codegen.specs.emission.inside.Exits.{redirected}
use Rattle.wap_codegen.proofs.emission.exits.redirect.Given as goal

-- there are as many forms, and those before this index are redirected
abbrev pub invariant-loop-at : goal.invariant-loop-at
invariant-loop-at l =
    (length l.forms.items ≡ length l.initial.forms.items)
    × ((before items after : List Form) → l.initial.forms.items ≡ before ++ (items ++ after)
    → l.from ≡ length before → l.to ≡ length before + length items
    → l.forms.items ≡ before ++ (map (redirected l.end l.again) (take (l.at - l.from) items)
    ++ (drop (l.at - l.from) items ++ after)))
