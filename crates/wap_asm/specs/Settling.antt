-- What passes over the sizes of forms come to. This project's own.
use Rattle.std.specs.Prelude.{ℕ, ◌+◌, ◌≤◌, ◌≡◌, true, List, length, slice_index}
use Rattle.wap_asm.specs.declared.form.Form.{Form}
use Rattle.wap_asm.specs.Placing.{grown, sizes_after, settled, wide, placed}
use Rattle.wap_asm.specs.Placed.{ArePlaceable}
use Rattle.wap_asm.specs.Checking.{are_placeable}

-- no size of the first list is above that of the second at its place
abbrev pub AreBelow : List ℕ → List ℕ → Type 0
AreBelow sizes others = (k : ℕ) → slice_index sizes k ≤ slice_index others k

-- the sizes that forms settle at are the least that another pass leaves as they are
pub record AreLeast : Type 0 where
  -- another pass changes none of them
  pub stay : (forms : List Form) → grown forms (settled forms) ≡ settled forms
  -- no pass makes a form shorter
  pub rise : (forms : List Form) (passes : ℕ)
      → AreBelow (sizes_after passes forms) (sizes_after (passes + 1) forms)
  -- sizes that hold all operands are no smaller
  pub least : (forms : List Form) (sizes : List ℕ)
      → AreBelow (grown forms sizes) sizes → AreBelow (settled forms) sizes
  -- the code is no longer than the wide code
  pub short : (forms : List Form) → length (placed forms) ≤ wide forms

-- forms that the test takes may be placed
abbrev pub IsTest : Type 0
IsTest = (forms : List Form) → are_placeable forms ≡ true → ArePlaceable forms
