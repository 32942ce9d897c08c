-- What is laid out by calculation is laid out as the definition says, and so is nothing else.
use Rattle.std.proofs.Common.{◌≡◌, ℕ, ◌≤◌, List, [], ◌∷◌, ◌++◌, length, Bool, true}
use Rattle.std.proofs.Common.{false, refl, sym, ap, ◌∙◌, subst, arith}
use Rattle.std.specs.Prelude.{All, filter}
use Rattle.std.specs.List.{flat_map, slice_split}
use Rattle.std.proofs.lemmas.List.Elements.{All-nil, All-cons, All-head, All-tail, All-append}
use Rattle.wap_layout.specs.declared.flow.Flow.{Flow}
use Rattle.wap_layout.specs.declared.flow.Mode.{Mode}
use Rattle.wap_layout.specs.declared.flow.Mode.TheVariants.{Wrapped, Unwrapped, Preformatted}
use Rattle.wap_layout.specs.Blanks.{is_blank, words_of}
use Rattle.wap_layout.specs.Pieces.{Piece, pieces_of}
use Rattle.wap_layout.specs.Layout.{IsLaid, AreLaid, closed}
use Rattle.wap_layout.specs.Calculation.{laid, piece_lines, lines_of}
use Rattle.wap_layout.proofs.Splitting.{is_word}
use Rattle.wap_layout.proofs.Filling.{AreWords, filled-is}
use Rattle.wap_layout.proofs.Unique.{IsFilled-unique, IsFilled-fits}

AreWords-filter : (parts : List (List ℕ)) → AreWords (filter is_word parts)
AreWords-filter [] = tt
AreWords-filter ([] ∷ parts) = AreWords-filter parts
AreWords-filter ((c ∷ part) ∷ parts) = (omega arith, AreWords-filter parts)

-- a text's words are not empty
pub AreWords-words_of : (text : List ℕ) → AreWords (words_of text)
AreWords-words_of text = AreWords-filter (slice_split is_blank text)

pub laid-is : (width : ℕ) (mode : Mode) (text : List ℕ) → 1 ≤ width
    → IsLaid width mode text (laid width mode text)
laid-is width Wrapped text one = filled-is width (words_of text) one (AreWords-words_of text)
laid-is width _ text one = refl

pub lines-laid : (width : ℕ) (pieces : List Piece) → 1 ≤ width
    → AreLaid width pieces (flat_map (piece_lines width) pieces)
lines-laid width [] one = refl
lines-laid width (piece ∷ pieces) one = (
  laid width piece.mode piece.text,
  flat_map (piece_lines width) pieces,
  refl,
  laid-is width piece.mode piece.text one,
  lines-laid width pieces one,
)

IsLaid-unique : (width : ℕ) (mode : Mode) (text : List ℕ) (lines others : List (List ℕ))
    → IsLaid width mode text lines → IsLaid width mode text others → lines ≡ others
IsLaid-unique width Wrapped text lines others a b = IsFilled-unique a b
IsLaid-unique width _ text lines others a b = a ∙ sym b

-- pieces stand on one list of lines
pub AreLaid-unique : (width : ℕ) (pieces : List Piece) (lines others : List (List ℕ))
    → AreLaid width pieces lines → AreLaid width pieces others → lines ≡ others
AreLaid-unique width [] lines others a b = a ∙ sym b
AreLaid-unique width (piece ∷ pieces) lines others a b =
    a.2
    ∙ ap (λ own. closed piece.is_hard own ++ a.1)
    (IsLaid-unique width piece.mode piece.text a.0 b.0 a.3 b.3)
    ∙ ap (λ rest. closed piece.is_hard b.0 ++ rest) (AreLaid-unique width pieces a.1 b.1 a.4 b.4)
    ∙ sym b.2

closed-fits : (width : ℕ) (hard : Bool) (lines : List (List ℕ)) → All (λ l. length l ≤ width) lines
    → All (λ l. length l ≤ width) (closed hard lines)
closed-fits width false lines fits = fits
closed-fits width true [] fits = All-cons (λ l. length l ≤ width) [] [] (omega arith) fits
closed-fits width true (first ∷ lines) fits = fits

wrapped-fits : (width : ℕ) (mode : Mode) (text : List ℕ) (lines : List (List ℕ)) → mode ≡ Wrapped
    → IsLaid width mode text lines → All (λ l. length l ≤ width) lines
wrapped-fits width Wrapped text lines wrapped laid = IsFilled-fits laid
wrapped-fits width Unwrapped text lines wrapped laid = absurd (let e = wrapped in cc)
wrapped-fits width Preformatted text lines wrapped laid = absurd (let e = wrapped in cc)

-- where each piece is wrapped, no line is longer than the width
pub AreLaid-fits : (width : ℕ) (pieces : List Piece) (lines : List (List ℕ))
    → AreLaid width pieces lines → All (λ piece. piece.mode ≡ Wrapped) pieces
    → All (λ l. length l ≤ width) lines
AreLaid-fits width [] lines a wrapped =
    subst (λ ls. All (λ l. length l ≤ width) ls) (sym a) (All-nil (λ l. length l ≤ width))
AreLaid-fits width (piece ∷ pieces) lines a wrapped =
    subst (λ ls. All (λ l. length l ≤ width) ls) (sym a.2)
    (All-append (λ l. length l ≤ width) (closed piece.is_hard a.0) a.1
    (closed-fits width piece.is_hard a.0 (wrapped-fits width piece.mode piece.text a.0
    (All-head (λ p. p.mode ≡ Wrapped) piece pieces wrapped) a.3))
    (AreLaid-fits width pieces a.1 a.4 (All-tail (λ p. p.mode ≡ Wrapped) piece pieces wrapped)))

-- what follows for the lines of a flow
pub laid_of : (width : ℕ) (flow : List Flow) (lines : List (List ℕ)) → 1 ≤ width
    → lines ≡ lines_of width flow → AreLaid width (pieces_of flow) lines
laid_of width flow lines one e =
    subst (λ ls. AreLaid width (pieces_of flow) ls) (sym e) (lines-laid width (pieces_of flow) one)

pub only_of : (width : ℕ) (flow : List Flow) (lines page : List (List ℕ)) → 1 ≤ width
    → lines ≡ lines_of width flow → AreLaid width (pieces_of flow) page → lines ≡ page
only_of width flow lines page one e a =
    AreLaid-unique width (pieces_of flow) lines page (laid_of width flow lines one e) a

pub fits_of : (width : ℕ) (flow : List Flow) (lines : List (List ℕ)) → 1 ≤ width
    → lines ≡ lines_of width flow → All (λ piece. piece.mode ≡ Wrapped) (pieces_of flow)
    → All (λ l. length l ≤ width) lines
fits_of width flow lines one e wrapped =
    AreLaid-fits width (pieces_of flow) lines (laid_of width flow lines one e) wrapped
