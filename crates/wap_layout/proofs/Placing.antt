-- One more word after the lines so far, and the parts of a word that is longer than the width.
use Rattle.std.proofs.Common.{◌≡◌, ℕ, ◌≤◌, List, [], ◌∷◌, ◌++◌, length}
use Rattle.std.proofs.Common.{sym, ap, ◌∙◌, append_assoc, arith}
use Rattle.std.specs.List.{flat_map}
use Rattle.std.proofs.lemmas.List.{append-nil}
use Rattle.wap_layout.specs.Blanks.{unless_empty}
use Rattle.wap_layout.specs.Calculation.{cut_word, fill}
use Rattle.wap_layout.proofs.Cutting.{cut_word-short, cut_word-at_width}
use Rattle.wap_layout.proofs.Filling.{fill-first, fill-before}

-- ---- a word

pub some_parts : (width : ℕ) (word : List ℕ) → 1 ≤ length word
    → flat_map (cut_word width) (unless_empty word) ≡ cut_word width word
some_parts width [] some = absurd (omega arith)
some_parts width (c ∷ word) some = append-nil (cut_word width (c ∷ word))

-- a word begins a line
pub word-alone : (width : ℕ) (word : List ℕ) (more : List (List ℕ)) → length word ≤ width
    → fill width [] (cut_word width word ++ more) ≡ fill width word more
word-alone width word more short =
    ap (λ parts. fill width [] (parts ++ more)) (cut_word-short width word short)
    ∙ fill-first width word more

-- what it comes to where it is cut
pub begun-cut : (width : ℕ) (lines : List (List ℕ)) (word : List ℕ) (more rest : List (List ℕ))
    → 1 ≤ length word → rest ≡ lines ++ fill width [] (cut_word width word ++ more)
    → rest ≡ lines ++ fill width [] (flat_map (cut_word width) (unless_empty word) ++ more)
begun-cut width lines word more rest some is =
    is ∙ ap (λ parts. lines ++ fill width [] (parts ++ more)) (sym (some_parts width word some))

-- and where it isn't
pub begun-word : (width : ℕ) (lines : List (List ℕ)) (word line : List ℕ) (more : List (List ℕ))
    → 1 ≤ length word → length word ≤ width → line ≡ word
    → lines ++ fill width line more
    ≡ lines ++ fill width [] (flat_map (cut_word width) (unless_empty word) ++ more)
begun-word width lines word line more some short is =
    begun-cut width lines word more (lines ++ fill width line more) some
    (ap (λ l. lines ++ fill width l more) is
    ∙ ap (λ ls. lines ++ ls) (sym (word-alone width word more short)))

-- ---- the parts of a word

fill-full : (width : ℕ) (part : List ℕ) (c : ℕ) (rest : List ℕ) (more : List (List ℕ)) → 1 ≤ width
    → length part ≡ width
    → fill width [] (cut_word width (part ++ c ∷ rest) ++ more)
    ≡ part ∷ fill width [] (cut_word width (c ∷ rest) ++ more)
fill-full width part c rest more one full =
    ap (λ parts. fill width [] (parts ++ more)) (cut_word-at_width width part c rest full one)
    ∙ fill-first width part (cut_word width (c ∷ rest) ++ more)
    ∙ fill-before width part (c ∷ rest) more one (omega (arith, full)) (omega (arith, full))

-- a part is as long as the width, and the word goes on
pub cut-full : (lines new : List (List ℕ)) (part next left rest : List ℕ) (c width : ℕ)
    (more whole : List (List ℕ)) → 1 ≤ width → length part ≡ width → new ≡ lines ++ part ∷ []
    → next ≡ c ∷ [] → left ≡ c ∷ rest
    → lines ++ fill width [] (cut_word width (part ++ left) ++ more) ≡ whole
    → new ++ fill width [] (cut_word width (next ++ rest) ++ more) ≡ whole
cut-full lines new part next left rest c width more whole one full ends starts turn was =
    ap (λ p. new ++ fill width [] (cut_word width (p ++ rest) ++ more)) starts
    ∙ ap (λ ls. ls ++ fill width [] (cut_word width (c ∷ rest) ++ more)) ends
    ∙ append_assoc lines (part ∷ []) (fill width [] (cut_word width (c ∷ rest) ++ more))
    ∙ ap (λ ls. lines ++ ls) (sym (fill-full width part c rest more one full)
    ∙ ap (λ l. fill width [] (cut_word width (part ++ l) ++ more)) (sym turn))
    ∙ was

-- a part takes a character
pub cut-more : (lines new : List (List ℕ)) (part next left rest : List ℕ) (c width : ℕ)
    (more whole : List (List ℕ)) → new ≡ lines → next ≡ part ++ c ∷ [] → left ≡ c ∷ rest
    → lines ++ fill width [] (cut_word width (part ++ left) ++ more) ≡ whole
    → new ++ fill width [] (cut_word width (next ++ rest) ++ more) ≡ whole
cut-more lines new part next left rest c width more whole same goes_on turn was =
    ap (λ ls. ls ++ fill width [] (cut_word width (next ++ rest) ++ more)) same
    ∙ ap (λ p. lines ++ fill width [] (cut_word width (p ++ rest) ++ more)) goes_on
    ∙ ap (λ w. lines ++ fill width [] (cut_word width w ++ more))
    (append_assoc part (c ∷ []) rest ∙ ap (λ l. part ++ l) (sym turn))
    ∙ was

-- the last part is no longer than the width
pub cut-end : (lines : List (List ℕ)) (part left : List ℕ) (width : ℕ) (more whole : List (List ℕ))
    → length part ≤ width → left ≡ []
    → lines ++ fill width [] (cut_word width (part ++ left) ++ more) ≡ whole
    → lines ++ fill width part more ≡ whole
cut-end lines part left width more whole short turn was =
    ap (λ ls. lines ++ ls)
    (sym (word-alone width part more short) ∙ ap (λ w. fill width [] (cut_word width w ++ more))
    (sym (append-nil part) ∙ ap (λ l. part ++ l) (sym turn)))
    ∙ was
