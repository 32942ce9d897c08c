-- Reading piece by piece, as loops do.
use Rattle.std.proofs.Common.{◌≡◌, ℕ, zero, suc, ◌⊎◌, inl, inr, eqb, take, ◌+◌, ◌-◌, ◌*◌, ◌<◌, ◌≤◌}
use Rattle.std.proofs.Common.{Bool, false, cond, leb, List, [], ◌∷◌, ◌++◌, length, drop, Option}
use Rattle.std.proofs.Common.{Some, None, Result, Ok, Err, refl, sym, ap, ◌∙◌, append_assoc, arith}
use Rattle.std.specs.List.{fold}
use Rattle.std.proofs.lemmas.Bool.Decides.{nat_tests}
use Rattle.std.proofs.lemmas.List.{append-nil}
use Rattle.wap_base.specs.Outcome.{◌>>=◌}
use Rattle.wap_lex.specs.declared.token.Token.{Token}
use Rattle.wap_lex.specs.declared.fault.LexFault.{LexFault}
use Rattle.wap_lex.specs.Numbers.{with_digit, integer_limit}
use Rattle.wap_lex.specs.declared.token.Kind.{Kind}
use Rattle.wap_lex.specs.declared.shape.Shape.{Shape}
use Rattle.wap_lex.specs.Tokens.{kind_of, token_before}
use Rattle.wap_lex.specs.Calculation.{small, item_len, items_len, piece_at, pieces_at}
use Rattle.std.proofs.lemmas.Bool.{ne_eqb, both_ways, eq-eqb}
use Rattle.std.proofs.Math.Nat.{mul-le-mul_left}

-- a further digit makes no number smaller
pub grows : (base value : ℕ) (digits : List ℕ) → 1 ≤ base
    → value ≤ fold (with_digit base) value digits
grows base value [] some = omega arith
grows base value (digit ∷ digits) some =
    let more = grows base (with_digit base value digit) digits some in
    let by : value * 1 ≤ value * base = mul-le-mul_left value some in
    omega (arith, more, by)

pub too_large : (base value : ℕ) (digits : List ℕ) → 1 ≤ base → integer_limit < value
    → ◌≡◌ {A = Option ℕ} None (small (fold (with_digit base) value digits))
too_large base value digits some past =
    let more = grows base value digits some in
    let over : leb (fold (with_digit base) value digits) integer_limit ≡ false =
    grind (arith, nat_tests) in
    ap (λ (b : Bool). cond b (Some (fold (with_digit base) value digits)) None) (sym over)

-- what was read before, and what is still read
abbrev pub with_front : List Token → Result (List Token) LexFault → Result (List Token) LexFault
with_front front read = read >>= λ tokens. Ok (front ++ tokens)

pub nothing_before : (read : Result (List Token) LexFault) → with_front [] read ≡ read
nothing_before (Ok tokens) = refl
nothing_before (Err fault) = refl

-- ---- the items of strings

pub items_more : (turns done quote : ℕ) (bytes : List ℕ) → done < turns
    → (item_len quote bytes ≡ 0 → ⊥)
    → items_len (turns - done) quote bytes
    ≡ item_len quote bytes
    + items_len (turns - (done + 1)) quote (drop (item_len quote bytes) bytes)
items_more turns done quote bytes left some =
    let turn : turns - done ≡ suc (turns - (done + 1)) = omega arith in
    let item = item_len quote bytes in
    let is : eqb item 0 ≡ false = ne_eqb item 0 some in
    ap (λ (n : ℕ). items_len n quote bytes) turn
    ∙ ap (λ (b : Bool). cond b 0 (item + items_len (turns - (done + 1)) quote (drop item bytes))) is

pub items_end : (most quote : ℕ) (bytes : List ℕ) → item_len quote bytes ≡ 0
    → items_len most quote bytes ≡ 0
items_end zero quote bytes none = refl
items_end (suc most) quote bytes none =
    let item = item_len quote bytes in
    ap (λ (n : ℕ). cond (eqb n 0) 0 (item + items_len most quote (drop item bytes))) none

pub items_over : (turns done quote : ℕ) (bytes : List ℕ) → turns ≤ done
    → items_len (turns - done) quote bytes ≡ 0
items_over turns done quote bytes over =
    let none : turns - done ≡ 0 = omega arith in
    ap (λ (n : ℕ). items_len n quote bytes) none

-- ---- pieces

before : (kind : Option Kind) (at to : ℕ) (front tokens : List Token)
    → front ++ token_before kind at to tokens ≡ (front ++ token_before kind at to []) ++ tokens
before None at to front tokens = ap (λ (f : List Token). f ++ tokens) (sym (append-nil front))
before (Some kind) at to front tokens =
    sym (append_assoc front (record { kind = kind; from = at; to = to } ∷ []) tokens)

regrouped : (kind : Option Kind) (at to : ℕ) (front : List Token)
    (read : Result (List Token) LexFault)
    → with_front front (read >>= λ tokens. Ok (token_before kind at to tokens))
    ≡ with_front (front ++ token_before kind at to []) read
regrouped kind at to front (Ok tokens) =
    ap (λ (l : List Token). Ok l) (before kind at to front tokens)
regrouped kind at to front (Err fault) = refl

abbrev pub goes_on : ℕ → ℕ → List ℕ → Shape × ℕ → Result (List Token) LexFault
goes_on most at bytes found =
    pieces_at most (at + found.1) (drop found.1 bytes) >>= λ tokens.
    Ok (token_before (kind_of found.0 (take found.1 bytes)) at (at + found.1) tokens)

pub pieces_step : (most at : ℕ) (bytes : List ℕ) → (bytes ≡ [] → ⊥)
    → pieces_at (suc most) at bytes ≡ (piece_at at bytes >>= goes_on most at bytes)
unfolding pieces_at
pieces_step most at [] some = absurd (some refl)
pieces_step most at (c ∷ bytes) some = refl

pub pieces_more : (turns done at : ℕ) (bytes : List ℕ) (front : List Token) (found : Shape × ℕ)
    → done < turns → (bytes ≡ [] → ⊥) → piece_at at bytes ≡ Ok found
    → with_front front (pieces_at (turns - done) at bytes)
    ≡ with_front (front ++ token_before (kind_of found.0 (take found.1 bytes)) at (at + found.1) [])
    (pieces_at (turns - (done + 1)) (at + found.1) (drop found.1 bytes))
pieces_more turns done at bytes front found left some is =
    let turn : turns - done ≡ suc (turns - (done + 1)) = omega arith in
    ap (λ (n : ℕ). with_front front (pieces_at n at bytes)) turn
    ∙ ap (with_front front) (pieces_step (turns - (done + 1)) at bytes some)
    ∙ ap (λ (r : Result (Shape × ℕ) LexFault).
    with_front front (r >>= goes_on (turns - (done + 1)) at bytes)) is
    ∙ regrouped (kind_of found.0 (take found.1 bytes)) at (at + found.1) front
    (pieces_at (turns - (done + 1)) (at + found.1) (drop found.1 bytes))

pub pieces_fault : (turns done at : ℕ) (bytes : List ℕ) (front : List Token) (fault : LexFault)
    → done < turns → (bytes ≡ [] → ⊥) → piece_at at bytes ≡ Err fault
    → with_front front (pieces_at (turns - done) at bytes) ≡ Err fault
pieces_fault turns done at bytes front fault left some is =
    let turn : turns - done ≡ suc (turns - (done + 1)) = omega arith in
    ap (λ (n : ℕ). with_front front (pieces_at n at bytes)) turn
    ∙ ap (with_front front) (pieces_step (turns - (done + 1)) at bytes some)
    ∙ ap (λ (r : Result (Shape × ℕ) LexFault).
    with_front front (r >>= goes_on (turns - (done + 1)) at bytes)) is

pub pieces_end : (most at : ℕ) (bytes : List ℕ) (front : List Token) → (bytes ≡ []) ⊎ (most ≡ 0)
    → with_front front (pieces_at most at bytes) ≡ Ok front
unfolding pieces_at
pieces_end zero at [] front e = ap (λ (l : List Token). Ok l) (append-nil front)
pieces_end (suc most) at [] front e = ap (λ (l : List Token). Ok l) (append-nil front)
pieces_end zero at (c ∷ bytes) front e = ap (λ (l : List Token). Ok l) (append-nil front)
pieces_end (suc most) at (c ∷ bytes) front e = absurd (elim e [ inl x ↦ cc | inr y ↦ omega arith ])

pub some_left : (bytes : List ℕ) (b : Bool) → b ≡ eqb (length bytes) 0 → b ≡ false → bytes ≡ [] → ⊥
some_left bytes b is some none =
    both_ways (eqb (length bytes) 0) (sym is ∙ some) (eq-eqb (length bytes) 0 (ap length none))
