-- Readings that give a value or nothing. This project's own.
use Rattle.std.specs.Prelude.{Option, option_and_then}

-- a reading goes on where it gave a value, and else gives nothing
infixl 10 ◌>>=◌
abbrev pub ◌>>=◌ : {A B : Type 0} → Option A → (A → Option B) → Option B
o >>= next = option_and_then next o
