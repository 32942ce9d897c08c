-- Bytes as key lines write them. This project's own.
use Rattle.std.specs.Prelude.{ℕ, List, [], ◌∷◌, Option, None}
use Rattle.std.specs.Result.{result_ok}
use Rattle.hex.specs.Hex.{decode_of}

-- the bytes that hexadecimal digits write, two digits for each byte and letters in either case;
-- there is one byte at least
abbrev pub bytes_of : List ℕ → Option (List ℕ)
bytes_of [] = None
bytes_of (c ∷ cs) = result_ok (decode_of (c ∷ cs))
