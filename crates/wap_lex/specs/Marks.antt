-- Marks: operators, separators and brackets (WAP-193, section 7.2).
use Rattle.std.specs.Prelude.{ℕ, Bool, List, [], ◌∷◌, codes}
use Rattle.std.specs.List.{list_any}
use Rattle.wap_base.specs.Texts.{is_same_text}

-- the longer ones first
unfoldable pub marks : List (List ℕ)
marks =
    codes ">>>=" ∷ codes "div=" ∷ codes ">>>" ∷ codes "<<=" ∷ codes ">>=" ∷ codes "++" ∷
    codes "--" ∷ codes "<<" ∷ codes ">>" ∷ codes "<=" ∷ codes ">=" ∷ codes "==" ∷ codes "!=" ∷
    codes "&&" ∷ codes "||" ∷ codes "+=" ∷ codes "-=" ∷ codes "*=" ∷ codes "/=" ∷ codes "%=" ∷
    codes "&=" ∷ codes "^=" ∷ codes "|=" ∷ codes "+" ∷ codes "-" ∷ codes "~" ∷ codes "!" ∷
    codes "*" ∷ codes "/" ∷ codes "%" ∷ codes "<" ∷ codes ">" ∷ codes "&" ∷ codes "^" ∷ codes "|" ∷
    codes "?" ∷ codes ":" ∷ codes "=" ∷ codes "," ∷ codes ";" ∷ codes "." ∷ codes "#" ∷ codes "(" ∷
    codes ")" ∷ codes "{" ∷ codes "}" ∷ []

-- whether a text is a mark
abbrev pub is_mark : List ℕ → Bool
is_mark text = list_any (is_same_text text) marks
