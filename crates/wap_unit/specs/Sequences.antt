-- Bytes that stand for one thing after another, as those of units do. This project's own.
use Rattle.std.specs.Prelude.{◌≡◌, ℕ, List, length}
use Rattle.wap_base.specs.Numbers.{IsMb}
pub use Rattle.wap_base.specs.formats.Sequences.{InTurn, Then, IsByte, After, IsRow}

-- these bytes, after their number
abbrev pub IsSized : List ℕ → List ℕ → Type 0
IsSized bytes content = InTurn (λ front. IsMb front (length content)) (λ back. back ≡ content) bytes

-- some bytes of this kind, after their number
abbrev pub Sized : (List ℕ → Type 0) → List ℕ → Type 0
Sized Is bytes = (content : List ℕ) × IsSized bytes content × Is content

-- how many they are, and these things
abbrev pub IsCounted : {A : Type 0} → (List ℕ → A → Type 0) → List ℕ → List A → Type 0
IsCounted Is bytes xs = InTurn (λ count. IsMb count (length xs)) (λ row. IsRow Is row xs) bytes
