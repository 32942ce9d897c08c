-- Where each name stands in the string table. This project's own.
use Rattle.std.specs.Prelude.{◌≡◌, ℕ, ◌+◌, ◌^◌, ◌<◌, List, [], ◌∷◌, length}
use Rattle.wap_wbxml.specs.spelling.Names.{string, table_of}

abbrev pub places_from : ℕ → List (List ℕ) → List ℕ
places_from place [] = []
places_from place (name ∷ names) = place ∷ places_from (place + length (string name)) names

-- the bytes of the table of some names, and their places
pub record IsTable (names : List (List ℕ)) (bytes places : List ℕ) : Type 0 where
  pub bytes_are : bytes ≡ table_of names
  pub places_are : places ≡ places_from 0 names
  pub fits : length bytes < 2 ^ 32
