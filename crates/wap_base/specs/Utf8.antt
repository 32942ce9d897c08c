-- How many bytes a text takes in UTF-8 (RFC 3629, section 3).
use Rattle.std.specs.Prelude.{ℕ, ◌+◌, List, [], ◌∷◌}
use Rattle.std.specs.Char.{len_utf8}

abbrev pub utf8_len : List ℕ → ℕ
utf8_len [] = 0
utf8_len (c ∷ cs) = len_utf8 c + utf8_len cs
