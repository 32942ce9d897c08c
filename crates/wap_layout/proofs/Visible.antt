-- What is no blank comes out in order, and nothing of it is lost.
use Rattle.std.proofs.Common.{◌≡◌, ℕ, ◌≤◌, List, [], ◌∷◌, ◌++◌, take, drop, Bool, true}
use Rattle.std.proofs.Common.{false, cond, refl, sym, ap, ◌∙◌, append_assoc, arith}
use Rattle.std.specs.Prelude.{filter, not}
use Rattle.std.specs.List.{concat, slice_split, onto_first}
use Rattle.std.proofs.lemmas.Bool.Decides.{nat_tests}
use Rattle.std.proofs.lemmas.List.{append-nil, take-append-drop}
use Rattle.std.proofs.lemmas.List.Elements.{filter-append}
use Rattle.wap_layout.specs.declared.flow.Flow.{Flow}
use Rattle.wap_layout.specs.declared.flow.Flow.TheVariants.{Words, Hard, Soft, Wrap, NoWrap, Pre}
use Rattle.wap_layout.specs.declared.flow.Mode.{Mode}
use Rattle.wap_layout.specs.declared.flow.Mode.TheVariants.{Wrapped, Unwrapped, Preformatted}
use Rattle.wap_layout.specs.Blanks.{is_blank, is_line_feed, words_of, joined, unless_empty, visible}
use Rattle.wap_layout.specs.Pieces.{Piece, kept, ended, pieces, pieces_of, text_of}
use Rattle.wap_layout.specs.Layout.{IsFilled, done, line, cut, IsLaid, AreLaid, closed}
use Rattle.wap_layout.specs.Calculation.{lines_of}
use Rattle.wap_layout.proofs.Splitting.{is_word, parted}
use Rattle.wap_layout.proofs.Laying.{laid_of}

visible-append : (a b : List ℕ) → visible (a ++ b) ≡ visible a ++ visible b
visible-append a b = filter-append (λ c. not (is_blank c)) a b

visible-before : (a b c : List ℕ) → visible b ≡ visible c → visible (a ++ b) ≡ visible (a ++ c)
visible-before a b c e = visible-append a b ∙ ap (λ v. visible a ++ v) e ∙ sym (visible-append a c)

visible-behind : (a b c : List ℕ) → visible a ≡ visible b → visible (a ++ c) ≡ visible (b ++ c)
visible-behind a b c e = visible-append a c ∙ ap (λ v. v ++ visible c) e ∙ sym (visible-append b c)

concat-append : (a b : List (List ℕ)) → concat (a ++ b) ≡ concat a ++ concat b
concat-append [] b = refl
concat-append (x ∷ a) b =
    ap (λ t. x ++ t) (concat-append a b) ∙ sym (append_assoc x (concat a) (concat b))

-- words on a line
visible-joined : (words : List (List ℕ)) → visible (joined words) ≡ visible (concat words)
visible-joined [] = refl
visible-joined (word ∷ []) = ap visible (sym (append-nil word))
visible-joined (word ∷ next ∷ words) =
    visible-before word (32 ∷ joined (next ∷ words)) (concat (next ∷ words))
    (visible-joined (next ∷ words))

-- words on lines
visible-filled : {width : ℕ} {words lines : List (List ℕ)} → IsFilled width words lines
    → visible (concat lines) ≡ visible (concat words)
visible-filled done = refl
visible-filled (line {words} {lines} front rest l more) =
    visible-behind (joined front) (concat front) (concat lines) (visible-joined front)
    ∙ visible-before (concat front) (concat lines) (concat rest) (visible-filled more)
    ∙ ap visible (sym (concat-append front rest) ∙ ap concat (sym l.divides))
visible-filled {width} (cut {word} {rest} {lines} long more) =
    visible-before (take width word) (concat lines) (drop width word ++ concat rest)
    (visible-filled more)
    ∙ ap visible (sym (append_assoc (take width word) (drop width word) (concat rest))
    ∙ ap (λ w. w ++ concat rest) (take-append-drop width word))

concat-first : (c : ℕ) (parts : List (List ℕ)) → concat (onto_first c parts) ≡ c ∷ concat parts
concat-first c [] = refl
concat-first c (part ∷ parts) = refl

-- the parts of a text round blanks
visible-parted : (test blank : Bool) (c : ℕ) (parts : List (List ℕ)) → (test ≡ true → blank ≡ true)
    → is_blank c ≡ blank → visible (concat (parted test c parts)) ≡ visible (c ∷ concat parts)
visible-parted true blank c parts implies was =
    ap (λ b. cond (not b) (c ∷ visible (concat parts)) (visible (concat parts)))
    (sym (was ∙ implies refl))
visible-parted false blank c parts implies was = ap visible (concat-first c parts)

visible-split : (test : ℕ → Bool) (text : List ℕ) → ((c : ℕ) → test c ≡ true → is_blank c ≡ true)
    → visible (concat (slice_split test text)) ≡ visible text
visible-split test [] implies = refl
visible-split test (c ∷ text) implies =
    visible-parted (test c) (is_blank c) c (slice_split test text) (implies c) refl
    ∙ visible-before (c ∷ []) (concat (slice_split test text)) text
    (visible-split test text implies)

concat-filter : (parts : List (List ℕ)) → concat (filter is_word parts) ≡ concat parts
concat-filter [] = refl
concat-filter ([] ∷ parts) = concat-filter parts
concat-filter ((c ∷ part) ∷ parts) = ap (λ t. (c ∷ part) ++ t) (concat-filter parts)

-- the words of a text
pub visible-words : (text : List ℕ) → visible (concat (words_of text)) ≡ visible text
visible-words text =
    ap visible (concat-filter (slice_split is_blank text))
    ∙ visible-split is_blank text (λ c blank. blank)

visible-alone : (text : List ℕ) → visible (concat (unless_empty text)) ≡ visible text
visible-alone [] = refl
visible-alone (c ∷ text) = ap visible (append-nil (c ∷ text))

visible-laid : (width : ℕ) (mode : Mode) (text : List ℕ) (lines : List (List ℕ))
    → IsLaid width mode text lines → visible (concat lines) ≡ visible text
visible-laid width Wrapped text lines l = visible-filled l ∙ visible-words text
visible-laid width Unwrapped text lines l =
    ap (λ ls. visible (concat ls)) l ∙ visible-alone (joined (words_of text))
    ∙ visible-joined (words_of text) ∙ visible-words text
visible-laid width Preformatted text lines l = ap (λ ls. visible (concat ls)) l ∙ visible-alone text

concat-closed : (hard : Bool) (lines : List (List ℕ)) → concat (closed hard lines) ≡ concat lines
concat-closed false lines = refl
concat-closed true [] = refl
concat-closed true (first ∷ lines) = refl

-- the texts of pieces
abbrev texts_of : List Piece → List ℕ
texts_of [] = []
texts_of (piece ∷ pieces) = piece.text ++ texts_of pieces

visible-laid_pieces : (width : ℕ) (pieces : List Piece) (lines : List (List ℕ))
    → AreLaid width pieces lines → visible (concat lines) ≡ visible (texts_of pieces)
visible-laid_pieces width [] lines a = ap (λ ls. visible (concat ls)) a
visible-laid_pieces width (piece ∷ pieces) lines a =
    ap (λ ls. visible (concat ls)) a.2
    ∙ ap visible (concat-append (closed piece.is_hard a.0) a.1
    ∙ ap (λ t. t ++ concat a.1) (concat-closed piece.is_hard a.0))
    ∙ visible-behind (concat a.0) piece.text (concat a.1)
    (visible-laid width piece.mode piece.text a.0 a.3)
    ∙ visible-before piece.text (concat a.1) (texts_of pieces)
    (visible-laid_pieces width pieces a.1 a.4)

texts_of-append : (a b : List Piece) → texts_of (a ++ b) ≡ texts_of a ++ texts_of b
texts_of-append [] b = refl
texts_of-append (piece ∷ a) b =
    ap (λ t. piece.text ++ t) (texts_of-append a b)
    ∙ sym (append_assoc piece.text (texts_of a) (texts_of b))

texts_of-kept : (parts : List (List ℕ)) (hard : Bool) → texts_of (kept parts hard) ≡ concat parts
texts_of-kept [] hard = refl
texts_of-kept (text ∷ []) hard = refl
texts_of-kept (text ∷ next ∷ rest) hard = ap (λ t. text ++ t) (texts_of-kept (next ∷ rest) hard)

feed-blank : (c : ℕ) → is_line_feed c ≡ true → is_blank c ≡ true
feed-blank c feed = grind (arith, nat_tests)

visible-ended : (mode : Mode) (text : List ℕ) (hard : Bool)
    → visible (texts_of (ended mode text hard)) ≡ visible text
visible-ended Preformatted text hard =
    ap visible (texts_of-kept (slice_split is_line_feed text) hard)
    ∙ visible-split is_line_feed text feed-blank
visible-ended _ text hard = ap visible (append-nil text)

visible-mark : (mode next : Mode) (text rest : List ℕ) (hard : Bool) (flow : List Flow)
    → visible (texts_of (pieces next [] flow)) ≡ visible rest
    → visible (texts_of (ended mode text hard ++ pieces next [] flow)) ≡ visible (text ++ rest)
visible-mark mode next text rest hard flow e =
    ap visible (texts_of-append (ended mode text hard) (pieces next [] flow))
    ∙ visible-behind (texts_of (ended mode text hard)) text (texts_of (pieces next [] flow))
    (visible-ended mode text hard)
    ∙ visible-before text (texts_of (pieces next [] flow)) rest e

visible-pieces : (mode : Mode) (text : List ℕ) (flow : List Flow)
    → visible (texts_of (pieces mode text flow)) ≡ visible (text ++ text_of flow)
visible-pieces mode text [] = visible-ended mode text false ∙ ap visible (sym (append-nil text))
visible-pieces mode text (Words more ∷ flow) =
    visible-pieces mode (text ++ more) flow ∙ ap visible (append_assoc text more (text_of flow))
visible-pieces mode text (Hard ∷ flow) =
    visible-mark mode mode text (text_of flow) true flow (visible-pieces mode [] flow)
visible-pieces mode text (Soft ∷ flow) =
    visible-mark mode mode text (text_of flow) false flow (visible-pieces mode [] flow)
visible-pieces mode text (Wrap ∷ flow) =
    visible-mark mode Wrapped text (text_of flow) false flow (visible-pieces Wrapped [] flow)
visible-pieces mode text (NoWrap ∷ flow) =
    visible-mark mode Unwrapped text (text_of flow) false flow (visible-pieces Unwrapped [] flow)
visible-pieces mode text (Pre ∷ flow) =
    visible-mark mode Preformatted text (text_of flow) false flow
    (visible-pieces Preformatted [] flow)

-- what of a flow is no blank comes out on its lines, in order
pub visible_of : (width : ℕ) (flow : List Flow) (lines : List (List ℕ)) → 1 ≤ width
    → lines ≡ lines_of width flow → visible (concat lines) ≡ visible (text_of flow)
visible_of width flow lines one e =
    visible-laid_pieces width (pieces_of flow) lines (laid_of width flow lines one e)
    ∙ visible-pieces Wrapped [] flow
