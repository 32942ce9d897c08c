-- The pieces of a text, as far as it was read.
use Rattle.std.proofs.Common.{◌≡◌, ℕ, ◌+◌, List, [], ◌∷◌, ◌++◌, Bool}
use Rattle.std.proofs.Common.{true, false, cond, ◌==◌, ◌≢◌, refl, sym, ap, ◌∙◌, append_assoc}
use Rattle.std.proofs.lemmas.List.{append-nil}
use Rattle.std.specs.List.{onto_first}
use Rattle.wap_base.specs.Ascii.{semicolon}
use Rattle.wap_cardrules.specs.Selects.{pieces_of}

-- the pieces of a text that goes on a piece
abbrev pub before_pieces : List ℕ → List (List ℕ) → List (List ℕ)
before_pieces first [] = first ∷ []
before_pieces first (piece ∷ pieces) = (first ++ piece) ∷ pieces

abbrev pub pieces_from : List ℕ → List ℕ → List (List ℕ)
pieces_from piece text = before_pieces piece (pieces_of text)

before_pieces-first : (piece : List ℕ) (c : ℕ) (pieces : List (List ℕ))
    → before_pieces piece (onto_first c pieces) ≡ before_pieces (piece ++ c ∷ []) pieces
before_pieces-first piece c [] = refl
before_pieces-first piece c (next ∷ pieces) =
    ap (λ p. p ∷ pieces) (sym (append_assoc piece (c ∷ []) next))

before_nothing : (text : List ℕ) (pieces : List (List ℕ)) → pieces ≢ []
    → before_pieces [] pieces ≡ pieces
before_nothing text [] some = absurd (some refl)
before_nothing text (piece ∷ pieces) some = refl

some_first : (c : ℕ) (pieces : List (List ℕ)) → onto_first c pieces ≢ []
some_first c [] = λ none. absurd (cc none)
some_first c (piece ∷ pieces) = λ none. absurd (cc none)

some_pieces : (text : List ℕ) → pieces_of text ≢ []
some_pieces [] = λ none. absurd (cc none)
some_pieces (c ∷ text) = by (c == semicolon)
  where
    by : (b : Bool) → cond b ([] ∷ pieces_of text) (onto_first c (pieces_of text)) ≢ []
    by true = λ none. absurd (cc none)
    by false = some_first c (pieces_of text)

pub pieces_start : (text : List ℕ) → pieces_from [] text ≡ pieces_of text
pieces_start text = before_nothing text (pieces_of text) (some_pieces text)

pub pieces_from-end : (piece : List ℕ) → pieces_from piece [] ≡ piece ∷ []
pieces_from-end piece = ap (λ p. p ∷ []) (append-nil piece)

pieces_from-semicolon : (piece text : List ℕ) (c : ℕ) → (c == semicolon) ≡ true
    → pieces_from piece (c ∷ text) ≡ piece ∷ pieces_from [] text
pieces_from-semicolon piece text c is =
    ap (λ b. before_pieces piece (cond b ([] ∷ pieces_of text) (onto_first c (pieces_of text)))) is
    ∙ ap (λ p. p ∷ pieces_of text) (append-nil piece)
    ∙ ap (λ pieces. piece ∷ pieces) (sym (pieces_start text))

pieces_from-other : (piece text : List ℕ) (c : ℕ) → (c == semicolon) ≡ false
    → pieces_from piece (c ∷ text) ≡ pieces_from (piece ++ c ∷ []) text
pieces_from-other piece text c isnt =
    ap
    (λ b. before_pieces piece (cond b ([] ∷ pieces_of text) (onto_first c (pieces_of text)))) isnt
    ∙ before_pieces-first piece c (pieces_of text)

-- the steps of a loop over the characters
pub pieces-semicolon : (pieces new : List (List ℕ)) (piece next left rest : List ℕ) (c : ℕ)
    (whole : List (List ℕ)) → new ≡ pieces ++ piece ∷ [] → next ≡ [] → (c == semicolon) ≡ true
    → left ≡ c ∷ rest
    → pieces ++ pieces_from piece left ≡ whole → new ++ pieces_from next rest ≡ whole
pieces-semicolon pieces new piece next left rest c whole ends starts is turn was =
    ap (λ p. new ++ pieces_from p rest) starts
    ∙ ap (λ ps. ps ++ pieces_from [] rest) ends
    ∙ append_assoc pieces (piece ∷ []) (pieces_from [] rest)
    ∙ ap (λ ps. pieces ++ ps)
    (sym (pieces_from-semicolon piece rest c is) ∙ ap (pieces_from piece) (sym turn))
    ∙ was

pub pieces-other : (pieces : List (List ℕ)) (piece next left rest : List ℕ) (c : ℕ)
    (whole : List (List ℕ)) → next ≡ piece ++ c ∷ [] → (c == semicolon) ≡ false → left ≡ c ∷ rest
    → pieces ++ pieces_from piece left ≡ whole → pieces ++ pieces_from next rest ≡ whole
pieces-other pieces piece next left rest c whole goes_on isnt turn was =
    ap (λ p. pieces ++ pieces_from p rest) goes_on
    ∙ ap (λ ps. pieces ++ ps)
    (sym (pieces_from-other piece rest c isnt) ∙ ap (pieces_from piece) (sym turn))
    ∙ was

pub pieces-end : (pieces new : List (List ℕ)) (piece left : List ℕ) (whole : List (List ℕ))
    → new ≡ pieces ++ piece ∷ []
    → left ≡ [] → pieces ++ pieces_from piece left ≡ whole → new ≡ whole
pieces-end pieces new piece left whole ends turn was =
    ends
    ∙ ap (λ ps. pieces ++ ps) (sym (pieces_from-end piece) ∙ ap (pieces_from piece) (sym turn))
    ∙ was
