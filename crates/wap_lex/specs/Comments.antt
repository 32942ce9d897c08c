-- Comments (WAP-193, section 6.1.4).
use Rattle.std.specs.Prelude.{◌≡◌, ℕ, Bool, true, false, ◌&&◌, ◌==◌, if◌then◌else◌, List, [], ◌∷◌}
use Rattle.std.specs.List.{list_all}
use Rattle.wap_base.specs.Texts.{is_empty}
use Rattle.wap_base.specs.Ascii.{asterisk, slash}
use Rattle.wap_lex.specs.Characters.{is_in}
use Rattle.wap_lex.specs.declared.class.Class.TheVariants.{InLine}

-- the first `*/` stands at the end; star tells whether a `*` stands before the text
abbrev pub ends_block : Bool → List ℕ → Bool
ends_block star [] = false
ends_block star (c ∷ rest) =
    if star && (c == slash) then is_empty rest else ends_block (c == asterisk) rest

-- up to a line's end, or from `/*` to the next `*/`
pub data IsComment : List ℕ → Type 0 where
  line : (text : List ℕ) → list_all (is_in InLine) text ≡ true → IsComment (slash ∷ slash ∷ text)
  block : (text : List ℕ) → ends_block false text ≡ true → IsComment (slash ∷ asterisk ∷ text)
