-- What is read of a source are its tokens, or its first fault.
use Rattle.std.proofs.Common.{◌≡◌, ◌≢◌, ℕ, zero, suc, ◌+◌, ◌≤◌, true, false, List, []}
use Rattle.std.proofs.Common.{◌∷◌, ◌++◌, length, take, drop, Result, Ok, Err, ◌⊎◌, inl}
use Rattle.std.proofs.Common.{inr, refl, sym, ap, subst, ◌∙◌, arith, length-append}
use Rattle.std.proofs.Common.{length-drop, IfOk, IfErr, MatchResult}
use Rattle.std.specs.Prelude.{is_err}
use Rattle.std.specs.Str.{IsUtf8}
use Rattle.std.proofs.lemmas.List.{take_at, drop_at, take-append-drop}
use Rattle.std.proofs.lemmas.List.{length-take-le, nil_from_length}
use Rattle.wap_base.specs.Outcome.{◌>>=◌, Meets}
use Rattle.wap_base.proofs.Choices.{bind_ok, bind_err, ok_same}
use Rattle.wap_lex.specs.declared.token.Token.{Token}
use Rattle.wap_lex.specs.declared.shape.Shape.{Shape}
use Rattle.wap_lex.specs.declared.fault.LexFault.{LexFault}
use Rattle.wap_lex.specs.declared.fault.LexFault.TheVariants.{NoMemory, NotText}
use Rattle.wap_lex.specs.Tokens.{IsPiece, IsInRange, kind_of, token_before, Lexes, ends, piece}
use Rattle.wap_lex.specs.Tokens.{AreTokens, StopsIn, here, behind, IsRefused, no_text, stops}
use Rattle.wap_lex.specs.Calculation.{piece_at, pieces_at}
use Rattle.wap_lex.proofs.Loops.{goes_on, pieces_step}
use Rattle.wap_lex.proofs.Longest.{reach}
use Rattle.wap_lex.proofs.Fronts.{piece_ok, piece_again, piece_err, piece_stops}

pub read_ok : (most at : ℕ) (bytes : List ℕ) (tokens : List Token) → length bytes ≤ most
    → pieces_at most at bytes ≡ Ok tokens → Lexes at bytes tokens
unfolding pieces_at
read_ok zero at [] tokens few e = subst (Lexes at []) (ok_same [] tokens e) (ends at)
read_ok (suc most) at [] tokens few e = subst (Lexes at []) (ok_same [] tokens e) (ends at)
read_ok zero at (c ∷ bytes) tokens few e = absurd (omega arith)
read_ok (suc most) at (c ∷ bytes) tokens few e =
    let whole = c ∷ bytes in
    let first = bind_ok (piece_at at whole) (goes_on most at whole) tokens e in
    let s = first.0.0 in
    let n = first.0.1 in
    let finds = piece_ok at whole s n first.1 in
    let rest =
    bind_ok (pieces_at most (at + n) (drop n whole))
    (λ others. Ok (token_before (kind_of s (take n whole)) at (at + n) others)) tokens first.2 in
    let len = length-take-le n whole finds.within in
    let left =
    read_ok most (at + n) (drop n whole) rest.0
    (omega (arith, length-drop n whole, finds.some)) rest.1 in
    let one =
    piece at s (take n whole) (drop n whole) rest.0 finds.piece finds.range
    (subst (λ (k : ℕ). Lexes (at + k) (drop n whole) rest.0) (sym len) left) in
    let same =
    ap (λ (k : ℕ). token_before (kind_of s (take n whole)) at (at + k) rest.0) len
    ∙ ok_same (token_before (kind_of s (take n whole)) at (at + n) rest.0) tokens rest.2 in
    subst (Lexes at whole) same
    (subst (λ (l : List ℕ).
    Lexes at l (token_before (kind_of s (take n whole)) at (at + length (take n whole)) rest.0))
    (take-append-drop n whole) one)

piece_some : (s : Shape) (text more : List ℕ) → IsPiece s text more → text ++ more ≡ [] → ⊥
piece_some s text more one none =
    omega (arith, ap length none, length-append text more, (reach s).some text one.fits)

-- after a piece
read_on : (most at : ℕ) (s : Shape) (text more : List ℕ) → IsPiece s text more → IsInRange s text
    → pieces_at (suc most) at (text ++ more) ≡ (pieces_at most (at + length text) more >>= λ others.
    Ok (token_before (kind_of s text) at (at + length text) others))
read_on most at s text more one range =
    let bytes = text ++ more in
    let n = length text in
    pieces_step most at bytes (piece_some s text more one)
    ∙ ap (λ (r : Result (Shape × ℕ) LexFault). r >>= goes_on most at bytes)
    (piece_again at s text more one range)
    ∙ ap (λ (l : List ℕ). pieces_at most (at + n) l >>= λ others.
    Ok (token_before (kind_of s (take n bytes)) at (at + n) others)) (drop_at text more n refl)
    ∙ ap (λ (l : List ℕ). pieces_at most (at + n) more >>= λ others.
    Ok (token_before (kind_of s l) at (at + n) others)) (take_at text more n refl)

pub read_again : (at : ℕ) (bytes : List ℕ) (tokens : List Token) → Lexes at bytes tokens
    → (most : ℕ) → length bytes ≤ most → pieces_at most at bytes ≡ Ok tokens
unfolding pieces_at
read_again at bytes tokens (ends at') zero few = refl
read_again at bytes tokens (ends at') (suc most) few = refl
read_again at bytes tokens (piece at' s text more others one range left) zero few =
    absurd (omega (arith, length-append text more, (reach s).some text one.fits))
read_again at bytes tokens (piece at' s text more others one range left) (suc most) few =
    read_on most at s text more one range
    ∙ ap (λ (r : Result (List Token) LexFault).
    r >>= λ ts. Ok (token_before (kind_of s text) at (at + length text) ts))
    (read_again (at + length text) more others left most
    (omega (arith, length-append text more, (reach s).some text one.fits)))

pub read_err : (most at : ℕ) (bytes : List ℕ) (f : LexFault) → length bytes ≤ most
    → pieces_at most at bytes ≡ Err f → StopsIn at bytes f
unfolding pieces_at
read_err zero at [] f few e = absurd cc
read_err (suc most) at [] f few e = absurd cc
read_err zero at (c ∷ bytes) f few e = absurd (omega arith)
read_err (suc most) at (c ∷ bytes) f few e =
    first_or_later (bind_err (piece_at at (c ∷ bytes)) (goes_on most at (c ∷ bytes)) f e)
    (read_err most) where
      first_or_later : ((piece_at at (c ∷ bytes) ≡ Err f)
          ⊎ ((x : Shape × ℕ) × (piece_at at (c ∷ bytes) ≡ Ok x)
          × (goes_on most at (c ∷ bytes) x ≡ Err f)))
          → ((at' : ℕ) (bytes' : List ℕ) (f' : LexFault) → length bytes' ≤ most
          → pieces_at most at' bytes' ≡ Err f' → StopsIn at' bytes' f') → StopsIn at (c ∷ bytes) f
      first_or_later (inl first) rest = here at (c ∷ bytes) f (piece_err at c bytes f first)
      first_or_later (inr later) rest =
          let whole = c ∷ bytes in
          let s = later.0.0 in
          let n = later.0.1 in
          let finds = piece_ok at whole s n later.1 in
          let len = length-take-le n whole finds.within in
          let err =
          inner_err (pieces_at most (at + n) (drop n whole))
          (λ others. token_before (kind_of s (take n whole)) at (at + n) others) later.2 in
          let left =
          rest (at + n) (drop n whole) f (omega (arith, length-drop n whole, finds.some)) err in
          subst (λ (l : List ℕ). StopsIn at l f) (take-append-drop n whole)
          (behind at s (take n whole) (drop n whole) f finds.piece finds.range
          (subst (λ (k : ℕ). StopsIn (at + k) (drop n whole) f) (sym len) left)) where
            inner_err : (r : Result (List Token) LexFault) (g : List Token → List Token)
                → (r >>= λ others. Ok (g others)) ≡ Err f → r ≡ Err f
            inner_err (Ok others) g is = absurd cc
            inner_err (Err d) g is = is

pub read_stops : (at : ℕ) (bytes : List ℕ) (f : LexFault) → StopsIn at bytes f
    → (most : ℕ) → length bytes ≤ most → pieces_at most at bytes ≡ Err f
read_stops at bytes f (here at' bytes' f' stop) zero few =
    absurd ((piece_stops at bytes f stop).0 (nil_from_length bytes (omega arith)))
read_stops at bytes f (here at' bytes' f' stop) (suc most) few =
    let told = piece_stops at bytes f stop in
    pieces_step most at bytes told.0
    ∙ ap (λ (r : Result (Shape × ℕ) LexFault). r >>= goes_on most at bytes) told.1
read_stops at bytes f (behind at' s text more f' one range left) zero few =
    absurd (omega (arith, length-append text more, (reach s).some text one.fits))
read_stops at bytes f (behind at' s text more f' one range left) (suc most) few =
    read_on most at s text more one range
    ∙ ap (λ (r : Result (List Token) LexFault).
    r >>= λ ts. Ok (token_before (kind_of s text) at (at + length text) ts))
    (read_stops (at + length text) more f left most
    (omega (arith, length-append text more, (reach s).some text one.fits)))

-- ---- what a call answers that meets the reading

module _ {V : Type 0} (view : V → List Token) (src : List ℕ) where
  pub found_by : (r : Result V LexFault) → IsUtf8 src
      → Meets NoMemory view r (pieces_at (length src) 0 src) → IfOk r (λ v. AreTokens src (view v))
  found_by (Ok v) text met =
      record { text = text; lexed = read_ok (length src) 0 src (view v) (omega arith) met }
  found_by (Err f) text met = tt

  pub refused_by : (r : Result V LexFault) → IsUtf8 src
      → Meets NoMemory view r (pieces_at (length src) 0 src)
      → IfErr r (λ f. f ≢ NoMemory → IsRefused src f)
  refused_by (Ok v) text met = tt
  refused_by (Err f) text met =
      λ told. stops f text (read_err (length src) 0 src f (omega arith) (met told))

  pub only_by : (r : Result V LexFault) → Meets NoMemory view r (pieces_at (length src) 0 src)
      → (tokens : List Token) → AreTokens src tokens → Meets NoMemory view r (Ok tokens)
  only_by r met tokens are =
      subst (Meets NoMemory view r)
      (read_again 0 src tokens are.lexed (length src) (omega arith)) met

  pub first_by : (r : Result V LexFault) → IsUtf8 src
      → Meets NoMemory view r (pieces_at (length src) 0 src) → (f : LexFault) → IsRefused src f
      → Meets NoMemory view r (Err f)
  first_by r text met f (no_text other) = absurd (other text)
  first_by r text met f (stops f' text' left) =
      subst (Meets NoMemory view r) (read_stops 0 src f left (length src) (omega arith)) met

pub utf8_of : {S E : Type 0} (P : S → Type 0) (Q : E → Type 0) (src : List ℕ) (r : Result S E)
    → is_err r ≡ false → MatchResult r (λ s. P s × IsUtf8 src) Q → IsUtf8 src
utf8_of P Q src (Ok s) e cases = cases.1
utf8_of P Q src (Err f) e cases = absurd cc

pub not_utf8_of : {S E : Type 0} (P : S → Type 0) (Q : E → Type 0) (src : List ℕ) (r : Result S E)
    → is_err r ≡ true → MatchResult r P (λ f. (¬ (IsUtf8 src)) × Q f) → ¬ (IsUtf8 src)
not_utf8_of P Q src (Ok s) e cases = absurd cc
not_utf8_of P Q src (Err f) e cases = cases.0

pub not_text_first : (src : List ℕ) → ¬ (IsUtf8 src)
    → (f : LexFault) → IsRefused src f → f ≡ NotText
not_text_first src none f (no_text other) = refl
not_text_first src none f (stops f' text left) = absurd (none text)
