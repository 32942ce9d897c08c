-- Escapes (RFC 2396, section 2.4), byte by byte over a text's UTF-8.
use Rattle.std.specs.Prelude.{ℕ, if◌then◌else◌, List, [], ◌∷◌, encode_utf8_all}
use Rattle.std.specs.List.{flat_map}
use Rattle.percent_encoding.specs.Percent.{percent_encode_byte, percent_decode}
use Rattle.wap_url.specs.Characters.{is_unreserved}

-- an unreserved byte stays, and any other becomes `%` and two upper-case digits
abbrev pub escape_of : ℕ → List ℕ
escape_of byte = if is_unreserved byte then byte ∷ [] else percent_encode_byte byte

-- each byte of the text, as it stays or as its escape
abbrev pub escaped : List ℕ → List ℕ
escaped text = flat_map escape_of (encode_utf8_all text)

-- each `%` and two hexadecimal digits become a byte, and any other `%` stays
abbrev pub unescaped : List ℕ → List ℕ
unescaped text = percent_decode (encode_utf8_all text)
