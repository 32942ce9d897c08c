-- Multi-byte integers (WAP-192, section 5.1): seven bits a byte, the most significant group first,
-- bit 7 set on all bytes but the last. This project's own: one to five bytes, below 2 ^ 32, and not
-- only the shortest.
use Rattle.std.specs.Prelude.{◌≡◌, ℕ, zero, suc, ◌+◌, ◌*◌, ◌/◌, ◌%◌, ◌^◌, ◌<◌, ◌≤◌, ◌⊎◌, ◌==◌, List}
use Rattle.std.specs.Prelude.{[], ◌∷◌, ◌++◌, length, drop, nat_lt, if◌then◌else◌, Result, Ok, Err}
use Rattle.std.specs.List.{AllByRecursion}
use Rattle.wap_base.specs.declared.number.ReadFault.{ReadFault}
use Rattle.wap_base.specs.declared.number.ReadFault.TheVariants.{Short, TooLong}

-- bit 7 is set on all bytes but the last
abbrev pub IsChain : List ℕ → Type 0
IsChain [] = ⊥
IsChain (last ∷ []) = last < 128
IsChain (byte ∷ next ∷ bytes) = (128 ≤ byte) × IsChain (next ∷ bytes)

-- the seven-bit groups in base 128, after a number that stands before them
abbrev pub groups_after : ℕ → List ℕ → ℕ
groups_after before [] = before
groups_after before (byte ∷ bytes) = groups_after (128 * before + byte % 128) bytes

pub record IsMb (bytes : List ℕ) (number : ℕ) : Type 0 where
  pub few : length bytes ≤ 5
  pub chain : IsChain bytes
  pub value : groups_after 0 bytes ≡ number
  pub fits : number < 2 ^ 32

-- from this place on the input has a number, and after it comes the next place
pub record ReadsMb (input : List ℕ) (place number next : ℕ) : Type 0 where
  pub bytes : List ℕ
  pub rest : List ℕ
  pub split : drop place input ≡ bytes ++ rest
  pub number_is : IsMb bytes number
  pub next_is : next ≡ place + length bytes

-- fewer than five bytes are left, and all of them carry on
pub record EndsInside (left : List ℕ) : Type 0 where
  pub few : length left < 5
  pub carry_on : AllByRecursion (λ byte. 128 ≤ byte) left

-- five bytes are left or more, of which the first four carry on; the fifth carries on too, or ends
-- too large a number
pub record IsTooLong (left : List ℕ) : Type 0 where
  pub bytes : List ℕ
  pub rest : List ℕ
  pub split : left ≡ bytes ++ rest
  pub five : length bytes ≡ 5
  pub over : AllByRecursion (λ byte. 128 ≤ byte) bytes
      ⊎ (IsChain bytes × (2 ^ 32 ≤ groups_after 0 bytes))

-- Reading from the left: from a place on, after bytes of the number that began at start and has
-- this value so far, with so many bytes still allowed; end is the input's length.
abbrev pub mb_after : (start end allowed before place : ℕ) → List ℕ → Result (ℕ × ℕ) ReadFault
mb_after start end zero before place left = Err (TooLong start)
mb_after start end (suc allowed) before place [] = Err (Short end)
mb_after start end (suc allowed) before place (byte ∷ left) =
    let value = 128 * before + byte % 128 in
    if nat_lt value (2 ^ 32)
    then (if nat_lt byte 128 then Ok (value, place + 1) else
    mb_after start end allowed value (place + 1) left)
    else Err (TooLong start)

unfoldable pub mb_at : List ℕ → ℕ → Result (ℕ × ℕ) ReadFault
mb_at input place = mb_after place (length input) 5 0 place (drop place input)

-- the groups of a number as bytes that carry on, none for 0, at most so many
abbrev pub carried : ℕ → ℕ → List ℕ
carried zero number = []
carried (suc allowed) number =
    if number == 0 then [] else carried allowed (number / 128) ++ (128 + number % 128) ∷ []

-- the shortest spelling of a number
abbrev pub mb_spelling : ℕ → List ℕ
mb_spelling number = carried 4 (number / 128) ++ number % 128 ∷ []

-- bytes spell the number, and no fewer do
pub record IsShortest (bytes : List ℕ) (number : ℕ) : Type 0 where
  pub spells : IsMb bytes number
  pub shortest : (others : List ℕ) → IsMb others number → length bytes ≤ length others
