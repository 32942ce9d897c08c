-- Lines as they are written. This project's own.
use Rattle.std.specs.Prelude.{ℕ, List, [], ◌∷◌, ◌++◌, encode_utf8_all}
use Rattle.std.specs.List.{flat_map}
use Rattle.wap_base.specs.Ascii.{line_feed}

-- a line as it is written: its characters in UTF-8, and a line feed
abbrev pub line_bytes : List ℕ → List ℕ
line_bytes line = encode_utf8_all line ++ line_feed ∷ []

-- such lines, one after the other
abbrev pub lines_bytes : List (List ℕ) → List ℕ
lines_bytes lines = flat_map line_bytes lines
