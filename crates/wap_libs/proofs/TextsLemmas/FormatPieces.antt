-- A format that is read piece by piece.
use Rattle.std.proofs.Common.{◌≡◌, ℕ, zero, suc, ◌<◌, ◌≤◌, List, [], ◌∷◌, ◌++◌, length, Option}
use Rattle.std.proofs.Common.{Some, None, refl, ap, sym, ◌∙◌, append_assoc, arith}
use Rattle.std.specs.Prelude.{option_map, IfSome, ⊤, ◌==◌}
use Rattle.std.specs.Char.{is_ascii_digit}
use Rattle.std.specs.List.{prefix_len}
use Rattle.std.proofs.lemmas.Bool.{cond_both}
use Rattle.std.proofs.lemmas.List.{length-drop}
use Rattle.wap_base.specs.Options.{◌>>=◌}
use Rattle.wap_libs.specs.declared.piece.Conversion.{Conversion}
use Rattle.wap_libs.specs.declared.piece.Specifier.{Specifier}
use Rattle.wap_libs.specs.declared.piece.Piece.{Piece}
use Rattle.wap_libs.specs.FormatGrammar.{conversion_of}
use Rattle.wap_libs.specs.FormatReading.{number_at, behind_digits, precision_at}
use Rattle.wap_libs.specs.FormatReading.{conversion_at, specifier_at, piece_behind_percent}
use Rattle.wap_libs.specs.FormatReading.{piece_at, pieces_at, pieces_of}

-- what follows is no longer than so many characters
abbrev pub LeavesAtMost : {A : Type 0} → ℕ → Option (A × List ℕ) → Type 0
LeavesAtMost most read = IfSome read (λ r. length r.1 ≤ most)

through : {A B : Type 0} (o : Option A) (f : A → Option B) (Q : A → Type 0) (P : B → Type 0)
    → IfSome o Q → ((x : A) → Q x → IfSome (f x) P) → IfSome (o >>= f) P
through None f Q P q k = tt
through (Some x) f Q P q k = k x q

always : {A : Type 0} (o : Option A) → IfSome o (λ _. ⊤)
always None = tt
always (Some x) = tt

mapped : {A B : Type 0} (o : Option A) (f : A → B) (Q : A → Type 0) (P : B → Type 0) → IfSome o Q
    → ((x : A) → Q x → P (f x)) → IfSome (option_map f o) P
mapped None f Q P q k = tt
mapped (Some x) f Q P q k = k x q

behind_digits-le : (s : List ℕ) → length (behind_digits s) ≤ length s
behind_digits-le s = omega (arith, length-drop (prefix_len is_ascii_digit s) s)

precision_at-le : (s : List ℕ) → LeavesAtMost (length s) (precision_at s)
precision_at-le [] = omega arith
precision_at-le (c ∷ s) =
    cond_both (c == 46) _ _ (LeavesAtMost (length (c ∷ s)))
    (λ _.
    cond_both (prefix_len is_ascii_digit s == 0) None _ (LeavesAtMost (length (c ∷ s))) (λ _. tt)
    (λ _.
    through (number_at s) (λ n. Some (Some n, behind_digits s)) (λ _. ⊤)
    (λ (r : Option ℕ × List ℕ). length r.1 ≤ length (c ∷ s)) (always (number_at s))
    (λ n _. omega (arith, behind_digits-le s))))
    (λ _. omega arith)

conversion_at-le : (s : List ℕ) → LeavesAtMost (length s) (conversion_at s)
conversion_at-le [] = tt
conversion_at-le (c ∷ s) =
    mapped (conversion_of c) (λ conversion. (conversion, s)) (λ _. ⊤) (λ (r : Conversion × List ℕ).
    length r.1 ≤ length (c ∷ s)) (always (conversion_of c)) (λ x _. omega arith)

specifier_at-le : (s : List ℕ) → LeavesAtMost (length s) (specifier_at s)
specifier_at-le s =
    through (number_at s) _ (λ _. ⊤) (λ (r : Specifier × List ℕ). length r.1 ≤ length s)
    (always (number_at s))
    (λ width _.
    through (precision_at (behind_digits s)) _
    (λ (r : Option ℕ × List ℕ). length r.1 ≤ length (behind_digits s))
    (λ (r : Specifier × List ℕ). length r.1 ≤ length s) (precision_at-le (behind_digits s))
    (λ precision fewer.
    through (conversion_at precision.1) _ (λ (r : Conversion × List ℕ). length r.1 ≤ length
    precision.1) (λ (r : Specifier × List ℕ). length r.1 ≤ length s) (conversion_at-le precision.1)
    (λ conversion last. omega (arith, behind_digits-le s))))

piece_behind_percent-le : (s : List ℕ) → LeavesAtMost (length s) (piece_behind_percent s)
piece_behind_percent-le [] = tt
piece_behind_percent-le (c ∷ s) =
    cond_both (c == 37) _ _ (LeavesAtMost (length (c ∷ s))) (λ _. omega arith)
    (λ _.
    mapped (specifier_at (c ∷ s)) _ (λ (r : Specifier × List ℕ). length r.1 ≤ length (c ∷ s))
    (λ (r : Piece × List ℕ). length r.1 ≤ length (c ∷ s)) (specifier_at-le (c ∷ s))
    (λ r fewer. fewer))

piece_at-le : (c : ℕ) (s : List ℕ) → LeavesAtMost (length s) (piece_at c s)
piece_at-le c s =
    cond_both (c == 37) _ _ (LeavesAtMost (length s)) (λ _. piece_behind_percent-le s)
    (λ _. omega arith)

-- what follows a piece that was read
abbrev pub goes_on : (List ℕ → Option (List Piece)) → Piece × List ℕ → Option (List Piece)
goes_on more read = option_map (λ pieces. read.0 ∷ pieces) (more read.1)

goes_on-same : (f g : List ℕ → Option (List Piece)) (most : ℕ) (o : Option (Piece × List ℕ))
    → LeavesAtMost most o
    → ((rest : List ℕ) → length rest ≤ most → f rest ≡ g rest)
    → (o >>= goes_on f) ≡ (o >>= goes_on g)
goes_on-same f g most None fewer same = refl
goes_on-same f g most (Some read) fewer same =
    ap (λ more. option_map (λ pieces. read.0 ∷ pieces) more) (same read.1 fewer)

-- more fuel than characters changes nothing
pieces_at-enough : (f g : ℕ) (s : List ℕ) → length s ≤ f → length s ≤ g
    → pieces_at f s ≡ pieces_at g s
pieces_at-enough zero zero s few enough = refl
pieces_at-enough zero (suc g) [] few enough = refl
pieces_at-enough zero (suc g) (c ∷ s) few enough = absurd (omega arith)
pieces_at-enough (suc f) zero [] few enough = refl
pieces_at-enough (suc f) zero (c ∷ s) few enough = absurd (omega arith)
pieces_at-enough (suc f) (suc g) [] few enough = refl
pieces_at-enough (suc f) (suc g) (c ∷ s) few enough =
    goes_on-same (pieces_at f) (pieces_at g) (length s) (piece_at c s) (piece_at-le c s)
    (λ rest fewer. pieces_at-enough f g rest (omega arith) (omega arith))

pub pieces_of-goes_on : (c : ℕ) (s : List ℕ)
    → pieces_of (c ∷ s) ≡ (piece_at c s >>= goes_on pieces_of)
pieces_of-goes_on c s =
    goes_on-same (pieces_at (length s)) pieces_of (length s) (piece_at c s) (piece_at-le c s)
    (λ rest fewer. pieces_at-enough (length s) (length rest) rest fewer (omega arith))

-- a piece that was read stands after those that were, and before those to come
pieces_of-push : (pieces : List Piece) (c : ℕ) (s rest : List ℕ) (piece : Piece)
    → piece_at c s ≡ Some (piece, rest)
    → option_map (λ more. (pieces ++ piece ∷ []) ++ more) (pieces_of rest)
    ≡ option_map (λ more. pieces ++ more) (pieces_of (c ∷ s))
pieces_of-push pieces c s rest piece was =
    regrouped (pieces_of rest) ∙ sym (ap (option_map (λ more. pieces ++ more))
    (pieces_of-goes_on c s ∙ ap (λ o. o >>= goes_on pieces_of) was)) where
      regrouped : (o : Option (List Piece))
          → option_map (λ more. (pieces ++ piece ∷ []) ++ more) o
          ≡ option_map (λ more. pieces ++ more) (option_map (λ more. piece ∷ more) o)
      regrouped None = refl
      regrouped (Some more) = ap (λ all. Some all) (append_assoc pieces (piece ∷ []) more)

-- where no piece can be read there are none
pieces_of-None : (pieces : List Piece) (c : ℕ) (s : List ℕ) → piece_at c s ≡ None
    → option_map (λ more. pieces ++ more) (pieces_of (c ∷ s)) ≡ None
pieces_of-None pieces c s was =
    ap (option_map (λ more. pieces ++ more))
    (pieces_of-goes_on c s ∙ ap (λ o. o >>= goes_on pieces_of) was)

fewer_left : (c : ℕ) (s rest : List ℕ) (piece : Piece) → piece_at c s ≡ Some (piece, rest)
    → length rest ≤ length s
fewer_left c s rest piece was =
    let fact = piece_at-le c s in
    let fits : LeavesAtMost (length s) (Some (piece, rest)) = rw was at fact in
    fits

-- the same of a text that isn't at its end
abbrev pub IsNext : List ℕ → Option (Piece × List ℕ) → Type 0
IsNext text read = (c : ℕ) (s : List ℕ) → text ≡ c ∷ s → read ≡ piece_at c s

pub next-less : (text rest : List ℕ) (piece : Piece) → 0 < length text
    → IsNext text (Some (piece, rest)) → length rest < length text
next-less [] rest piece some next = absurd (omega arith)
next-less (c ∷ s) rest piece some next =
    omega (arith, fewer_left c s rest piece (sym (next c s refl)))

pub next-push : (pieces : List Piece) (text rest : List ℕ) (piece : Piece) → 0 < length text
    → IsNext text (Some (piece, rest))
    → option_map (λ more. (pieces ++ piece ∷ []) ++ more) (pieces_of rest)
    ≡ option_map (λ more. pieces ++ more) (pieces_of text)
next-push pieces [] rest piece some next = absurd (omega arith)
next-push pieces (c ∷ s) rest piece some next =
    pieces_of-push pieces c s rest piece (sym (next c s refl))

pub next-None : (pieces : List Piece) (text : List ℕ) → 0 < length text → IsNext text None
    → option_map (λ more. pieces ++ more) (pieces_of text) ≡ None
next-None pieces [] some next = absurd (omega arith)
next-None pieces (c ∷ s) some next = pieces_of-None pieces c s (sym (next c s refl))
