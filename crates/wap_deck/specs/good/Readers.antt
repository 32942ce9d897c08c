-- Reading bytes from the left. This project's own.
use Rattle.std.specs.Prelude.{◌≡◌, ℕ, zero, suc, Bool, true, ◌==◌, if◌then◌else◌, List, [], ◌∷◌}
use Rattle.std.specs.Prelude.{◌++◌, length, take, drop, Option, Some, None, Result, Ok, Err}
pub use Rattle.wap_base.specs.Options.{◌>>=◌}
pub use Rattle.wap_base.specs.Texts.{first_of}
use Rattle.wap_base.specs.Numbers.{mb_at}
use Rattle.wap_base.specs.declared.number.ReadFault.{ReadFault}
use Rattle.wap_tokens.specs.declared.markup.codes.TheConstants.{END}
pub use Rattle.wap_wbxml.specs.reading.Fronts.{zero_place}

-- what a call answered, seen by view, is what the reading gives
abbrev pub Reads : {X Y : Type 0} → (X → Y) → Option X → Option Y → Type 0
Reads view (Some x) reading = reading ≡ Some (view x)
Reads view None reading = reading ≡ None

-- a value and the bytes after it
abbrev pub Reader : Type 0 → Type 0
Reader A = List ℕ → Option (A × List ℕ)

-- the bytes after what was read
abbrev pub rest_of : {A : Type 0} → Option (A × List ℕ) → Option (List ℕ)
rest_of (Some read) = Some read.1
rest_of None = None

-- these are the bytes after what is read, if a value is read
abbrev pub Leaves : {A : Type 0} → Reader A → List ℕ → List ℕ → Type 0
Leaves {A = A} next bytes rest =
    (a : A) (behind : List ℕ) → next bytes ≡ Some (a, behind) → rest ≡ behind

-- ---- a byte, a number, and a string up to a 0

-- what follows this byte, if it comes first
abbrev pub after : ℕ → List ℕ → Option (List ℕ)
after byte bytes = first_of bytes >>= λ first. if first.0 == byte then Some first.1 else None

-- the number that was read and the bytes after it, or nothing
abbrev pub number_from : List ℕ → Result (ℕ × ℕ) ReadFault → Option (ℕ × List ℕ)
number_from bytes (Ok read) = Some (read.0, drop read.1 bytes)
number_from bytes (Err fault) = None

-- a number of one to five bytes, and those after it
unfoldable pub number_at : List ℕ → Option (ℕ × List ℕ)
number_at bytes = number_from bytes (mb_at bytes 0)

-- the bytes up to a 0, and those after it
unfoldable pub ended_at : List ℕ → Option (List ℕ × List ℕ)
ended_at bytes =
    after 0 (drop (zero_place bytes) bytes) >>= λ rest. Some (take (zero_place bytes) bytes, rest)

-- what follows the first 0
abbrev pub behind_zero : List ℕ → List ℕ
behind_zero bytes = drop 1 (drop (zero_place bytes) bytes)

-- bytes end with these
pub record IsBehind (rest bytes : List ℕ) : Type 0 where
  pub front : List ℕ
  pub split : bytes ≡ front ++ rest

-- ---- lists

-- one value, and those that more reads after it, or none
abbrev pub run_step : {A : Type 0} → (List ℕ → List A × List ℕ) → List ℕ → Option (A × List ℕ)
    → List A × List ℕ
run_step more bytes None = ([], bytes)
run_step more bytes (Some read) = (read.0 ∷ (more read.1).0, (more read.1).1)

-- values one after the other, at most so many, and what follows the last
abbrev pub run_at : {A : Type 0} → Reader A → ℕ → List ℕ → List A × List ℕ
run_at next zero bytes = ([], bytes)
run_at next (suc left) bytes = run_step (run_at next left) bytes (next bytes)

-- as many as there are, one after the other, and what follows the last
unfoldable pub all_of : {A : Type 0} → Reader A → List ℕ → List A × List ℕ
all_of next bytes = run_at next (length bytes) bytes

-- nothing, or an end
abbrev pub is_end : List ℕ → Bool
is_end [] = true
is_end (byte ∷ rest) = byte == END

-- they stand before an end, or before nothing
abbrev pub Ends : {A : Type 0} → Reader A → List ℕ → Type 0
Ends next bytes = is_end (all_of next bytes).1 ≡ true

-- the same up to an end
unfoldable pub closed : {A : Type 0} → Reader A → List ℕ → Option (List A × List ℕ)
closed next bytes = after END (all_of next bytes).1 >>= λ rest. Some ((all_of next bytes).0, rest)

-- the same where there is such a list at all
unfoldable pub closed_if : {A : Type 0} → Bool → Reader A → List ℕ → Option (List A × List ℕ)
closed_if has next bytes = if has then closed next bytes else Some ([], bytes)
