-- Bytes of UTF-8 that may belong to characters that are shown as dots. This project's own.
use Rattle.std.specs.Prelude.{ℕ, Bool, ◌||◌, ◌==◌, nat_lt}
use Rattle.wap_base.specs.Ascii.{space, delete}

-- each control character has such a byte; 0xC2 begins those from U+0080 on, and some others
abbrev pub may_be_control : ℕ → Bool
may_be_control byte = nat_lt byte space || (byte == delete || byte == 0xC2)
