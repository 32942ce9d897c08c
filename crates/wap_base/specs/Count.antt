-- The greatest count that a program holds. This project's own.
use Rattle.std.specs.Prelude.{ℕ}

-- 2 ^ 64 - 1
abbrev pub greatest_count : ℕ
greatest_count = 18446744073709551615
