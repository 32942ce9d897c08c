-- Names of variables (WAP-191, section 10.3.1): an ASCII letter or an underscore, and then such
-- characters and digits.
use Rattle.std.specs.Prelude.{ℕ, Bool, false, ◌||◌, ◌&&◌, ◌==◌, List, [], ◌∷◌}
use Rattle.std.specs.Char.{is_ascii_alphabetic, is_ascii_digit}
use Rattle.std.specs.List.{list_all}
use Rattle.wap_base.specs.Ascii.{underscore}

abbrev pub begins_name : ℕ → Bool
begins_name c = is_ascii_alphabetic c || (c == underscore)

abbrev pub continues_name : ℕ → Bool
continues_name c = begins_name c || is_ascii_digit c

abbrev pub is_name : List ℕ → Bool
is_name [] = false
is_name (first ∷ rest) = begins_name first && list_all continues_name rest
