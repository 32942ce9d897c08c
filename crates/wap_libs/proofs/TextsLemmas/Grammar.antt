-- The pieces of a format by calculation are those of the grammar.
use Rattle.std.proofs.Common.{◌≡◌, ℕ, zero, suc, ◌+◌, Bool, true, false, ◌&&◌, List, []}
use Rattle.std.proofs.Common.{◌∷◌, ◌++◌, length, take, drop, Option, Some, None, refl, ap}
use Rattle.std.proofs.Common.{ap₂, sym, ◌∙◌, subst, inl, inr, arith}
use Rattle.std.specs.Prelude.{option_map, unwrap_or, ◌==◌}
use Rattle.std.specs.Char.{is_ascii_digit}
use Rattle.std.specs.List.{prefix_len, take_while}
use Rattle.std.specs.Str.{all_ascii_digits}
use Rattle.std.specs.Str.Parse.{digits_value}
use Rattle.std.proofs.lemmas.Bool.{cases_Bool, cond-true, cond-false, eqb-true}
use Rattle.std.proofs.lemmas.Bool.{eq-eqb, ne_eqb, and_parts, false≢true}
use Rattle.std.proofs.lemmas.Bool.Decides.{nat_tests}
use Rattle.std.proofs.lemmas.List.Folds.{length-prefix_len}
use Rattle.std.proofs.lemmas.List.{take_at, drop_at, take-append-drop}
use Rattle.wap_base.proofs.Options.{bound}
use Rattle.wap_base.specs.Options.{◌>>=◌}
use Rattle.wap_base.proofs.Choices.{chosen}
use Rattle.wap_libs.specs.declared.piece.Conversion.{Conversion}
use Rattle.wap_libs.specs.declared.piece.Specifier.{Specifier}
use Rattle.wap_libs.specs.declared.piece.Piece.{Piece}
use Rattle.wap_libs.specs.declared.piece.Piece.TheVariants.{Character, Specifier as Writes}
use Rattle.wap_libs.specs.FormatGrammar.{conversion_of, IsNumber, IsPrecision, IsFormat}
use Rattle.wap_libs.specs.FormatGrammar.{nothing, character, percent, specifier}
use Rattle.wap_libs.specs.FormatReading.{up_to_65535, number_at, behind_digits}
use Rattle.wap_libs.specs.FormatReading.{precision_at, conversion_at, specifier_at}
use Rattle.wap_libs.specs.FormatReading.{piece_behind_percent, piece_at, pieces_at, pieces_of}
use Rattle.wap_libs.proofs.TextsLemmas.FormatLaws.{within_65535, up_to-Some}
use Rattle.wap_libs.proofs.TextsLemmas.FormatPieces.{goes_on, pieces_of-goes_on}

-- no digit begins the text
begins_digit : List ℕ → Bool
begins_digit [] = false
begins_digit (c ∷ s) = is_ascii_digit c

prefix-all : (ds s : List ℕ) → all_ascii_digits ds ≡ true → begins_digit s ≡ false
    → prefix_len is_ascii_digit (ds ++ s) ≡ length ds
unfolding begins_digit
prefix-all [] [] all other = refl
prefix-all [] (c ∷ s) all other =
    cond-false (is_ascii_digit c) (1 + prefix_len is_ascii_digit s) 0 other
prefix-all (d ∷ ds) s all other =
    let parts = and_parts (is_ascii_digit d) (all_ascii_digits ds) all in
    cond-true (is_ascii_digit d) (1 + prefix_len is_ascii_digit (ds ++ s)) 0 parts.0
    ∙ omega (arith, prefix-all ds s parts.1 other)

-- a number is read as what it is
number_at-is : (ds s : List ℕ) (n : ℕ) → IsNumber ds n → begins_digit s ≡ false
    → number_at (ds ++ s) ≡ Some n
number_at-is ds s n is other =
    let front : take_while is_ascii_digit (ds ++ s) ≡ ds =
    ap (λ k. take k (ds ++ s)) (prefix-all ds s is.0 other) ∙ take_at ds s (length ds) refl in
    ap (λ t. up_to_65535 (digits_value 10 t)) front ∙ ap up_to_65535 is.1
    ∙ sym (within_65535 n is.2)

behind_digits-is : (ds s : List ℕ) → all_ascii_digits ds ≡ true → begins_digit s ≡ false
    → behind_digits (ds ++ s) ≡ s
behind_digits-is ds s all other =
    ap (λ k. drop k (ds ++ s)) (prefix-all ds s all other) ∙ drop_at ds s (length ds) refl

-- a letter is no digit, no `%` and no `.`
record IsLetter (c : ℕ) : Type 0 where
  no_digit : is_ascii_digit c ≡ false
  no_percent : (c == 37) ≡ false
  no_point : (c == 46) ≡ false

a_letter : (c : ℕ) (k : Conversion) → conversion_of c ≡ Some k → IsLetter c
a_letter c k is = record {
  no_digit = grind (arith, nat_tests);
  no_percent = grind (arith, nat_tests);
  no_point = grind (arith, nat_tests);
}

-- a precision and a letter after it
precision_at-is : (ps : List ℕ) (p : Option ℕ) (c : ℕ) (s : List ℕ) (k : Conversion)
    → IsPrecision ps p → conversion_of c ≡ Some k → precision_at (ps ++ (c ∷ s)) ≡ Some (p, c ∷ s)
unfolding begins_digit
precision_at-is [] p c s k is letter =
    cond-false (c == 46) _ (Some (None, c ∷ s)) (a_letter c k letter).no_point
    ∙ ap (λ q. Some (q, c ∷ s)) (sym is)
precision_at-is (x ∷ []) p c s k is letter = absurd (is.1 refl)
precision_at-is (x ∷ d ∷ ds) p c s k is letter =
    let other : begins_digit (c ∷ s) ≡ false = (a_letter c k letter).no_digit in
    let digits : all_ascii_digits (d ∷ ds) ≡ true = is.2.2.0 in
    let n = is.2.0 in
    let some : (prefix_len is_ascii_digit ((d ∷ ds) ++ (c ∷ s)) == 0) ≡ false =
    ap (λ m. m == 0) (prefix-all (d ∷ ds) (c ∷ s) digits other)
    ∙ ne_eqb (length (d ∷ ds)) 0 (λ none. absurd (omega arith)) in
    ap (λ y. precision_at (y ∷ ((d ∷ ds) ++ (c ∷ s)))) is.0
    ∙ cond-false (prefix_len is_ascii_digit ((d ∷ ds) ++ (c ∷ s)) == 0) None _ some
    ∙ ap₂ (λ number rest. number >>= λ m. Some (Some m, rest))
    (number_at-is (d ∷ ds) (c ∷ s) n is.2.2 other) (behind_digits-is (d ∷ ds) (c ∷ s) digits other)
    ∙ ap (λ q. Some (q, c ∷ s)) (sym is.2.1)

-- what follows a width is no digit
after_width : (ps : List ℕ) (p : Option ℕ) (c : ℕ) (s : List ℕ) (k : Conversion) → IsPrecision ps p
    → conversion_of c ≡ Some k → begins_digit (ps ++ (c ∷ s)) ≡ false
unfolding begins_digit
after_width [] p c s k is letter = (a_letter c k letter).no_digit
after_width (x ∷ ds) p c s k is letter = ap is_ascii_digit is.0

abbrev told : ℕ → Option ℕ × List ℕ → Conversion × List ℕ → Specifier × List ℕ
told width precision conversion =
    (record { width = width; precision = precision.0; conversion = conversion.0 }, conversion.1)

abbrev to_letter : ℕ → Option ℕ × List ℕ → Option (Specifier × List ℕ)
to_letter width precision =
    conversion_at precision.1 >>= λ conversion. Some (told width precision conversion)

abbrev to_precision : List ℕ → ℕ → Option (Specifier × List ℕ)
to_precision rest width = precision_at rest >>= to_letter width

specifier_at-is : (w ps : List ℕ) (c : ℕ) (s : List ℕ) (sp : Specifier) → IsNumber w sp.width
    → IsPrecision ps sp.precision → conversion_of c ≡ Some sp.conversion
    → specifier_at (w ++ (ps ++ (c ∷ s))) ≡ Some (sp, s)
specifier_at-is w ps c s sp number precision letter =
    let t : List ℕ = ps ++ (c ∷ s) in
    let other = after_width ps sp.precision c s sp.conversion precision letter in
    ap₂ (λ (n : Option ℕ) (rest : List ℕ). n >>= to_precision rest)
    (number_at-is w t sp.width number other) (behind_digits-is w t number.0 other)
    ∙ ap (λ (q : Option (Option ℕ × List ℕ)). q >>= to_letter sp.width)
    (precision_at-is ps sp.precision c s sp.conversion precision letter)
    ∙ ap (λ (k : Option Conversion). option_map (λ conversion. (conversion, s)) k >>= λ conversion.
    Some (told sp.width (sp.precision, c ∷ s) conversion)) letter

-- no `%` begins the text
begins_percent : List ℕ → Bool
begins_percent [] = false
begins_percent (c ∷ s) = c == 37

digit_no_percent : (c : ℕ) → is_ascii_digit c ≡ true → (c == 37) ≡ false
digit_no_percent c digit = grind (arith, nat_tests)

no_percent_first : (w ps : List ℕ) (p : Option ℕ) (c : ℕ) (s : List ℕ) (k : Conversion)
    → all_ascii_digits w ≡ true → IsPrecision ps p → conversion_of c ≡ Some k
    → begins_percent (w ++ (ps ++ (c ∷ s))) ≡ false
unfolding begins_percent
no_percent_first [] [] p c s k digits is letter = (a_letter c k letter).no_percent
no_percent_first [] (x ∷ ds) p c s k digits is letter = ap (λ y. y == 37) is.0
no_percent_first (d ∷ w) ps p c s k digits is letter =
    digit_no_percent d (and_parts (is_ascii_digit d) (all_ascii_digits w) digits).0

read_specifier : (u : List ℕ) (r : Specifier × List ℕ) → specifier_at u ≡ Some r
    → begins_percent u ≡ false → piece_behind_percent u ≡ Some (Writes r.0, r.1)
unfolding begins_percent
read_specifier [] r was other = absurd (let none : None ≡ Some r = was in cc)
read_specifier (c ∷ s) r was other =
    cond-false (c == 37) (Some (Character 37, s))
    (option_map (λ read. (Writes read.0, read.1)) (specifier_at (c ∷ s))) other
    ∙ ap (option_map (λ read. (Writes read.0, read.1))) was

reads : {text : List ℕ} {pieces : List Piece} → IsFormat text pieces → pieces_of text ≡ Some pieces
reads nothing = refl
reads (character {c} {text} {pieces} other is) =
    pieces_of-goes_on c text
    ∙ ap (λ o. o >>= goes_on pieces_of) (cond-false (c == 37) (piece_behind_percent text)
    (Some (Character c, text)) (ne_eqb c 37 other))
    ∙ ap (option_map (λ more. Character c ∷ more)) (reads is)
reads (percent {text} {pieces} is) =
    pieces_of-goes_on 37 (37 ∷ text) ∙ ap (option_map (λ more. Character 37 ∷ more)) (reads is)
reads (specifier w ps c text {specifier = sp} {pieces} number precision letter is) =
    pieces_of-goes_on 37 (w ++ (ps ++ (c ∷ text)))
    ∙ ap (λ o. o >>= goes_on pieces_of) (read_specifier (w ++ (ps ++ (c ∷ text))) (sp, text)
    (specifier_at-is w ps c text sp number precision letter)
    (no_percent_first w ps sp.precision c text sp.conversion number.0 precision letter))
    ∙ ap (option_map (λ more. Writes sp ∷ more)) (reads is)

pub pieces_of_format : (text : List ℕ) (pieces : List Piece) → IsFormat text pieces
    → pieces_of text ≡ Some pieces
pieces_of_format text pieces is = reads is

-- What was read stands there.

bound_map : {A B : Type 0} (o : Option A) (f : A → B) (b : B) → option_map f o ≡ Some b
    → (a : A) × (o ≡ Some a) × (f a ≡ b)
bound_map None f b e = absurd (let none : None ≡ Some b = e in cc)
bound_map (Some a) f b e = (a, refl, let some : Some (f a) ≡ Some b = e in cc)

pair_same : {A B : Type 0} (a c : A) (b d : B)
    → ◌≡◌ {A = Option (A × B)} (Some (a, b)) (Some (c, d)) → (a ≡ c) × (b ≡ d)
pair_same {A} {B} a c b d e =
    let first : Option (A × B) → A = λ o. (unwrap_or o (a, b)).0 in
    let second : Option (A × B) → B = λ o. (unwrap_or o (a, b)).1 in
    (ap first e, ap second e)

front_passes : (s : List ℕ) → all_ascii_digits (take_while is_ascii_digit s) ≡ true
front_passes [] = refl
front_passes (c ∷ s) = elim (cases_Bool (is_ascii_digit c)) [
  | inl digit ↦
      ap (λ k. all_ascii_digits (take k (c ∷ s)))
      (cond-true (is_ascii_digit c) (1 + prefix_len is_ascii_digit s) 0 digit
      ∙ more (prefix_len is_ascii_digit s))
      ∙ ap (λ b. b && all_ascii_digits (take_while is_ascii_digit s)) digit ∙ front_passes s
  | inr other ↦
      ap (λ k. all_ascii_digits (take k (c ∷ s)))
      (cond-false (is_ascii_digit c) (1 + prefix_len is_ascii_digit s) 0 other)
] where
  more : (n : ℕ) → 1 + n ≡ suc n
  more n = omega arith

number-is : (t : List ℕ) (n : ℕ) → number_at t ≡ Some n → IsNumber (take_while is_ascii_digit t) n
number-is t n was =
    let kept = up_to-Some (digits_value 10 (take_while is_ascii_digit t)) n (sym was) in
    (front_passes t, sym kept.0, omega (arith, kept.0, kept.1))

parted : (t : List ℕ) → t ≡ take_while is_ascii_digit t ++ behind_digits t
parted t = sym (take-append-drop (prefix_len is_ascii_digit t) t)

record IsSpelledPrecision (t r : List ℕ) (p : Option ℕ) : Type 0 where
  ps : List ℕ
  text : t ≡ ps ++ r
  is : IsPrecision ps p

precision-is : (t r : List ℕ) (p : Option ℕ) → precision_at t ≡ Some (p, r)
    → IsSpelledPrecision t r p
precision-is [] r p was =
    let both = pair_same None p [] r was in
    record { ps = []; text = both.1; is = sym both.0 }
precision-is (c ∷ s) r p was =
    elim (chosen (c == 46) _ (Some (None, c ∷ s)) (Some (p, r)) was) [
      | inl point ↦
          elim (chosen (prefix_len is_ascii_digit s == 0) None
          (number_at s >>= λ n. Some (Some n, behind_digits s)) (Some (p, r)) point.1) [
            | inl empty ↦ absurd (let none : None ≡ Some (p, r) = empty.1 in cc)
            | inr digits ↦
                let b = bound (number_at s) (λ n. Some (Some n, behind_digits s)) (p, r) digits.1 in
                let both = pair_same (Some b.0) p (behind_digits s) r b.2 in
                record {
                  ps = c ∷ take_while is_ascii_digit s;
                  text =
                      ap (λ u. c ∷ u)
                      (parted s ∙ ap (λ u. take_while is_ascii_digit s ++ u) both.1);
                  is = (
                    eqb-true c 46 point.0,
                    (λ none.
                        absurd (let z : prefix_len is_ascii_digit s ≡ 0 =
                        sym (length-prefix_len is_ascii_digit s) ∙ ap length none in
                        let e : (prefix_len is_ascii_digit s == 0) ≡ true = ap (λ k. k == 0) z in
                        false≢true (sym digits.0 ∙ e))),
                    (b.0, (sym both.0), number-is s b.0 b.1),
                  );
                }
          ]
      | inr other ↦
          let both = pair_same None p (c ∷ s) r other.1 in
          record { ps = []; text = both.1; is = sym both.0 }
    ]

record IsSpelledLetter (t r : List ℕ) (k : Conversion) : Type 0 where
  c : ℕ
  text : t ≡ c ∷ r
  is : conversion_of c ≡ Some k

letter-is : (t r : List ℕ) (k : Conversion) → conversion_at t ≡ Some (k, r) → IsSpelledLetter t r k
letter-is [] r k was = absurd (let none : None ≡ Some (k, r) = was in cc)
letter-is (c ∷ s) r k was =
    let b = bound_map (conversion_of c) (λ conversion. (conversion, s)) (k, r) was in
    let both = pair_same b.0 k s r (ap (λ q. Some q) b.2) in
    record { c = c; text = ap (λ u. c ∷ u) both.1; is = b.1 ∙ ap (λ q. Some q) both.0 }

-- a piece before a format is one more piece
specifier-is : (t r : List ℕ) (sp : Specifier) (pieces : List Piece) → specifier_at t ≡ Some (sp, r)
    → IsFormat r pieces → IsFormat (37 ∷ t) (Writes sp ∷ pieces)
specifier-is t r sp pieces was is =
    let w = bound (number_at t) (to_precision (behind_digits t)) (sp, r) was in
    let p = bound (precision_at (behind_digits t)) (to_letter w.0) (sp, r) w.2 in
    let k =
    bound (conversion_at p.0.1) (λ conversion. Some (told w.0 p.0 conversion)) (sp, r) p.2 in
    let both = pair_same (told w.0 p.0 k.0).0 sp k.0.1 r k.2 in
    let precision = precision-is (behind_digits t) p.0.1 p.0.0 p.1 in
    let letter = letter-is p.0.1 k.0.1 k.0.0 k.1 in
    let digits : List ℕ = take_while is_ascii_digit t in
    let text : t ≡ digits ++ (precision.ps ++ (letter.c ∷ r)) =
    parted t ∙ ap (λ u. digits ++ u)
    (precision.text ∙ ap (λ u. precision.ps ++ u) (letter.text ∙ ap (λ u. letter.c ∷ u) both.1)) in
    let F : List ℕ → Type 0 = λ u. IsFormat (37 ∷ u) (Writes sp ∷ pieces) in
    subst F (sym text) (specifier digits precision.ps letter.c r
    (let N : Specifier → Type 0 = λ q. IsNumber digits q.width in
    subst N both.0 (number-is t w.0 w.1))
    (let P : Specifier → Type 0 = λ q. IsPrecision precision.ps q.precision in
    subst P both.0 precision.is)
    (letter.is ∙ ap (λ (q : Specifier). Some q.conversion) both.0)
    is)

piece-is : (c : ℕ) (s r : List ℕ) (p : Piece) (pieces : List Piece) → piece_at c s ≡ Some (p, r)
    → IsFormat r pieces → IsFormat (c ∷ s) (p ∷ pieces)
piece-is c s r p pieces was is =
    elim (chosen (c == 37) (piece_behind_percent s) (Some (Character c, s)) (Some (p, r)) was) [
      | inl sign ↦
          let F : ℕ → Type 0 = λ d. IsFormat (d ∷ s) (p ∷ pieces) in
          subst F (sym (eqb-true c 37 sign.0)) (behind s sign.1)
      | inr other ↦
          let both = pair_same (Character c) p s r other.1 in
          let F : Piece → Type 0 = λ q. IsFormat (c ∷ s) (q ∷ pieces) in
          let R : List ℕ → Type 0 = λ u. IsFormat u pieces in
          subst F both.0
          (character (λ e. false≢true (sym other.0 ∙ eq-eqb c 37 e)) (subst R (sym both.1) is))
    ] where
      behind : (t : List ℕ) → piece_behind_percent t ≡ Some (p, r) → IsFormat (37 ∷ t) (p ∷ pieces)
      behind [] e = absurd (let none : None ≡ Some (p, r) = e in cc)
      behind (d ∷ t) e = elim (chosen (d == 37) (Some (Character 37, t)) _ (Some (p, r)) e) [
        | inl sign ↦
            let both = pair_same (Character 37) p t r sign.1 in
            let F : Piece → Type 0 = λ q. IsFormat (37 ∷ d ∷ t) (q ∷ pieces) in
            let D : ℕ → Type 0 = λ x. IsFormat (37 ∷ x ∷ t) (Character 37 ∷ pieces) in
            let R : List ℕ → Type 0 = λ u. IsFormat u pieces in
            subst F both.0
            (subst D (sym (eqb-true d 37 sign.0)) (percent (subst R (sym both.1) is)))
        | inr other ↦
            let b =
            bound_map (specifier_at (d ∷ t)) (λ read. (Writes read.0, read.1)) (p, r) other.1 in
            let both = pair_same (Writes b.0.0) p b.0.1 r (ap (λ q. Some q) b.2) in
            let F : Piece → Type 0 = λ q. IsFormat (37 ∷ d ∷ t) (q ∷ pieces) in
            let R : List ℕ → Type 0 = λ u. IsFormat u pieces in
            subst F both.0 (specifier-is (d ∷ t) b.0.1 b.0.0 pieces b.1 (subst R (sym both.1) is))
      ]

at_end : (pieces : List Piece) → ◌≡◌ {A = Option (List Piece)} (Some []) (Some pieces)
    → IsFormat [] pieces
at_end pieces was =
    let none : [] ≡ pieces = cc in
    let F : List Piece → Type 0 = λ q. IsFormat [] q in
    subst F none nothing

spells : (fuel : ℕ) (text : List ℕ) (pieces : List Piece) → pieces_at fuel text ≡ Some pieces
    → IsFormat text pieces
spells zero [] pieces was = at_end pieces was
spells zero (c ∷ s) pieces was = absurd (let none : None ≡ Some pieces = was in cc)
spells (suc fuel) [] pieces was = at_end pieces was
spells (suc fuel) (c ∷ s) pieces was =
    let b = bound (piece_at c s) (goes_on (pieces_at fuel)) pieces was in
    let m = bound_map (pieces_at fuel b.0.1) (λ more. b.0.0 ∷ more) pieces b.2 in
    let F : List Piece → Type 0 = λ q. IsFormat (c ∷ s) q in
    subst F m.2 (piece-is c s b.0.1 b.0.0 m.0 b.1 (spells fuel b.0.1 m.0 m.1))

pub format_of_pieces : (text : List ℕ) (pieces : List Piece) → pieces_of text ≡ Some pieces
    → IsFormat text pieces
format_of_pieces text pieces was = spells (length text) text pieces was
