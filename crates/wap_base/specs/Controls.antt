-- Control characters (Unicode, general category Cc), which are shown as dots (this project's own).
use Rattle.std.specs.Prelude.{ℕ, Bool, ◌||◌, ◌&&◌, nat_lt, nat_le, if◌then◌else◌, List, map}
use Rattle.wap_base.specs.Ascii.{space, full_stop, delete}

-- U+00A0, the first character behind those of Latin-1 that are control characters
abbrev pub no_break_space : ℕ
no_break_space = 0xA0

-- those before the space, and from U+007F to U+009F
abbrev pub is_control : ℕ → Bool
is_control c = nat_lt c space || (nat_le delete c && nat_lt c no_break_space)

-- a control character is shown as a dot
abbrev pub shown_character : ℕ → ℕ
shown_character c = if is_control c then full_stop else c

-- a text as it is shown
abbrev pub shown_text : List ℕ → List ℕ
shown_text text = map shown_character text
