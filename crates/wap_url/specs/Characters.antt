-- The characters of URLs (RFC 2396, section 2 and appendix A).
use Rattle.std.specs.Prelude.{ℕ, Bool, ◌==◌, ◌||◌, ◌&&◌, not, List, length, codes}
use Rattle.wap_base.specs.Cuts.{begins_with}
use Rattle.std.specs.List.{list_all, list_any}
use Rattle.std.specs.Char.{is_ascii_graphic, is_ascii_alphabetic, is_ascii_alphanumeric}
use Rattle.wap_base.specs.Ascii.{number_sign, full_stop, slash, colon, question_mark}

-- the `#` before a fragment (section 4.1)
abbrev pub is_hash : ℕ → Bool
is_hash c = c == number_sign

-- the `.` between two labels of a host (section 3.2.2)
abbrev pub is_dot : ℕ → Bool
is_dot c = c == full_stop

-- the `/` between two segments of a path (section 3.3)
abbrev pub is_slash : ℕ → Bool
is_slash c = c == slash

-- the `:` after a scheme, and before a port (sections 3.1 and 3.2.2)
abbrev pub is_colon : ℕ → Bool
is_colon c = c == colon

-- the `?` before a query (section 3.4)
abbrev pub is_question : ℕ → Bool
is_question c = c == question_mark

-- ends a scheme, or what could be one
abbrev pub ends_scheme : ℕ → Bool
ends_scheme c = is_colon c || (is_slash c || is_question c)

-- ends an authority
abbrev pub ends_authority : ℕ → Bool
ends_authority c = is_slash c || is_question c

-- one of the characters
abbrev pub is_one_of : List ℕ → ℕ → Bool
is_one_of cs c = list_any (λ d. c == d) cs

-- may stand before a fragment: the characters 21 to 7E but for `"`, `<` and `>` (sections 2.4.3 and
-- 4.1), and for the `#` that ends what stands there. That `{`, `}`, `|`, `\`, `^`, `[`, `]`, a
-- backquote and a `%` without two digits after it may stand there too is this project's own.
abbrev pub is_allowed : ℕ → Bool
is_allowed c = is_ascii_graphic c && not (is_one_of (codes "\"<>#") c)

-- letters, digits, `+`, `-` and `.` (section 3.1)
abbrev pub is_scheme_character : ℕ → Bool
is_scheme_character c = is_ascii_alphanumeric c || is_one_of (codes "+-.") c

-- a letter, and then characters of schemes (section 3.1)
abbrev pub is_scheme : List ℕ → Bool
is_scheme scheme = begins_with is_ascii_alphabetic scheme && list_all is_scheme_character scheme

-- letters, digits, `-` and `.` (the characters of section 3.2.2). That they may stand in any order,
-- and that no userinfo may stand before them, is this project's own.
abbrev pub is_host_character : ℕ → Bool
is_host_character c = is_ascii_alphanumeric c || is_one_of (codes "-.") c

-- one character of hosts or more
abbrev pub is_host : List ℕ → Bool
is_host host = not (length host == 0) && list_all is_host_character host

-- letters, digits and marks (section 2.3)
abbrev pub is_unreserved : ℕ → Bool
is_unreserved c = is_ascii_alphanumeric c || is_one_of (codes "-_.!~*'()") c
