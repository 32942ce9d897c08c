-- The value of a variable among lines, by the bytes of the first of them.
use Rattle.std.proofs.Common.{◌≡◌, ℕ, List, ◌∷◌, drop, Bool, true, false, if◌then◌else◌, nat_eq}
use Rattle.std.proofs.Common.{length, sym, ap, ◌∙◌}
use Rattle.std.specs.List.{starts_with}
use Rattle.std.specs.Str.{chars, IsUtf8}
use Rattle.std.proofs.lemmas.Str.{encodes-chars}
use Rattle.wap_cli.specs.made.Making.{sum_mark, value_in}

module _ (bytes : List ℕ) (rest left lines : List (List ℕ)) (text : IsUtf8 bytes)
    (is : left ≡ chars bytes ∷ rest) (was : value_in left ≡ value_in lines) where
  first : value_in left
      ≡ (if starts_with nat_eq bytes sum_mark then drop (length sum_mark) bytes else value_in rest)
  first =
      ap value_in is
      ∙ ap (λ (line : List ℕ). if starts_with nat_eq line sum_mark
      then drop (length sum_mark) line else value_in rest) (encodes-chars bytes text)

  -- the line is that of the variable
  pub value_found : starts_with nat_eq bytes sum_mark ≡ true → drop 4 bytes ≡ value_in lines
  value_found so =
      sym (first ∙ ap (λ (b : Bool). if b then drop 4 bytes else value_in rest) so) ∙ was

  -- it is none, so the others are looked at
  pub value_later : starts_with nat_eq bytes sum_mark ≡ false → value_in rest ≡ value_in lines
  value_later so =
      sym (first ∙ ap (λ (b : Bool). if b then drop 4 bytes else value_in rest) so) ∙ was
