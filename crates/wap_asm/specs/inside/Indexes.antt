-- The indexes of labels as the code keeps them. It only carries proofs.
use Rattle.std.specs.Prelude.{ℕ, ◌<◌, ◌≡◌, List, Option, Some, None, slice_get, unwrap_or}
use Rattle.std.specs.Ordering.{nat_cmp}
use Rattle.std.specs.BTreeMap.{BTreeMap, get}
use Rattle.wap_asm.specs.declared.form.Form.{Form}
use Rattle.wap_asm.specs.declared.form.Form.TheVariants.{Op, Jump, Label}
use Rattle.wap_asm.specs.declared.site.Kind.TheVariants.{Fixed}
use Rattle.wap_asm.specs.declared.site.Site.{Site}
use Rattle.wap_asm.specs.Spellings.{operation_of}
use Rattle.wap_asm.specs.inside.Passes.{kind_of}

-- an index below n at which the label stands, if there is one
abbrev pub IsIndex : List Form → ℕ → ℕ → Option ℕ → Type 0
IsIndex forms n label None = (k : ℕ) → k < n → slice_get forms k ≡ Some (Label label) → ⊥
IsIndex forms n label (Some k) = slice_get forms k ≡ Some (Label label)

abbrev pub AreIndexes : List Form → ℕ → BTreeMap ℕ ℕ → Type 0
AreIndexes forms n labels = (label : ℕ) → IsIndex forms n label (get nat_cmp labels label)

abbrev pub site_by : BTreeMap ℕ ℕ → Form → Site
site_by labels (Op instr) = record { kind = Fixed; target = 0 }
site_by labels (Jump name label) =
    record { kind = kind_of (operation_of name); target = unwrap_or (get nat_cmp labels label) 0 }
site_by labels (Label label) = record { kind = Fixed; target = 0 }
