-- Where the tables have their rows: in the order of the codes, a few of which are free. This
-- project's own.
use Rattle.std.specs.Prelude.{ℕ, ◌-◌, Bool, ◌&&◌, nat_le, if◌then◌else◌, Option, Some, None}

abbrev pub is_within : ℕ → ℕ → ℕ → Bool
is_within first last code = nat_le first code && nat_le code last

-- the place of a code among the tags
abbrev pub tag_place : ℕ → Option ℕ
tag_place code =
    if is_within 0x1B 0x39 code then Some (code - 0x1B) else
    if is_within 0x3B 0x3F code then Some (code - 0x1C) else None

-- the place of a code among the starts of attributes
abbrev pub start_place : ℕ → Option ℕ
start_place code =
    if is_within 0x05 0x0D code then Some (code - 5) else
    if is_within 0x0F 0x16 code then Some (code - 6) else
    if is_within 0x18 0x2A code then Some (code - 7) else
    if is_within 0x2E 0x3F code then Some (code - 10) else
    if is_within 0x45 0x50 code then Some (code - 15) else
    if is_within 0x52 0x64 code then Some (code - 16) else None

-- the place of a code among the parts of values
abbrev pub value_place : ℕ → Option ℕ
value_place code =
    if is_within 0x85 0x91 code then Some (code - 0x85) else
    if is_within 0x93 0x9B code then Some (code - 0x86) else
    if is_within 0x9D 0xA1 code then Some (code - 0x87) else None
