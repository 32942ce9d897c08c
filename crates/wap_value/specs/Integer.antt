-- Which whole numbers are Integers: those of 32 bits in two's complement (WAP-193, "Integer Size").
use Rattle.std.specs.Prelude.{◌^◌, Bool, ℤ, pos, negsuc, nat_lt, Option, Some, None, if◌then◌else◌}

-- `negsuc n` is -(n + 1), so both rows have 2 ^ 31 numbers
abbrev pub is_integer : ℤ → Bool
is_integer (pos n) = nat_lt n (2 ^ 31)
is_integer (negsuc n) = nat_lt n (2 ^ 31)

-- the Integer that a whole number is, if it is one
abbrev pub in_range : ℤ → Option ℤ
in_range z = if is_integer z then Some z else None
