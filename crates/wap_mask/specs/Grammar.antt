-- How a mask is written (WAP-191, section 11.6.3): a letter, an escaped character, and last of all
-- a repeated letter.
use Rattle.std.specs.Prelude.{◌≡◌, ℕ, ◌+◌, ◌≤◌, List, [], ◌∷◌, Some, Bool, true, false}
use Rattle.wap_base.specs.Ascii.{asterisk, digit_zero, backslash}
use Rattle.wap_mask.specs.declared.class.Class.{Class}
use Rattle.wap_mask.specs.declared.class.Class.TheVariants.{Any}
use Rattle.wap_mask.specs.declared.symbol.Symbol.{Symbol}
use Rattle.wap_mask.specs.declared.symbol.Symbol.TheVariants.{One, Exactly, UpTo, AnyNumber}
use Rattle.wap_mask.specs.Characters.{class_of}

-- the text is a mask of these symbols
pub data IsMask : List ℕ → List Symbol → Type 0 where
  nothing : IsMask [] []
  letter : {c : ℕ} {class : Class} {text : List ℕ} {mask : List Symbol} → class_of c ≡ Some class
      → IsMask text mask → IsMask (c ∷ text) (One class ∷ mask)
  escaped : {c : ℕ} {text : List ℕ} {mask : List Symbol} → IsMask text mask
      → IsMask (backslash ∷ c ∷ text) (Exactly c ∷ mask)
  starred : {c : ℕ} {class : Class} → class_of c ≡ Some class
      → IsMask (asterisk ∷ c ∷ []) (AnyNumber class ∷ [])
  counted : {digit most c : ℕ} {class : Class} → digit ≡ digit_zero + most → 1 ≤ most → most ≤ 9
      → class_of c ≡ Some class → IsMask (digit ∷ c ∷ []) (UpTo most class ∷ [])

-- the symbol may take more or fewer characters than one
abbrev pub repeats : Symbol → Bool
repeats (UpTo most class) = true
repeats (AnyNumber class) = true
repeats _ = false

-- no symbol but the last repeats, which holds of every mask
abbrev pub RepeatsLast : List Symbol → Type 0
RepeatsLast [] = Unit {0}
RepeatsLast (symbol ∷ mask) = (repeats symbol ≡ true → mask ≡ []) × RepeatsLast mask

-- the mask of any text, `*M`
abbrev pub any_text : List Symbol
any_text = AnyNumber Any ∷ []
