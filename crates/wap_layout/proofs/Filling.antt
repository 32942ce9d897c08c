-- What is filled by calculation is filled as the definition says.
use Rattle.std.proofs.Common.{◌≡◌, ◌≢◌, ℕ, zero, suc, ◌+◌, ◌≤◌, ◌<◌, List, [], ◌∷◌, ◌++◌}
use Rattle.std.proofs.Common.{length, take, drop, true, false, cond, refl, sym, ap, ◌∙◌}
use Rattle.std.proofs.Common.{◌⊎◌, inl, inr, subst, append_assoc, arith}
use Rattle.std.specs.Prelude.{min}
use Rattle.std.specs.List.{flat_map}
use Rattle.std.proofs.lemmas.Bool.{cases_lt}
use Rattle.std.proofs.lemmas.Bool.Decides.{nat_tests}
use Rattle.std.proofs.lemmas.List.{length-append, length-drop, length-take}
use Rattle.wap_layout.specs.Blanks.{joined, unless_empty}
use Rattle.wap_layout.specs.Layout.{IsFilled, done, line, cut}
use Rattle.wap_layout.specs.Calculation.{cut_word, has_room, fill, filled}
use Rattle.wap_layout.proofs.Cutting.{cut_word-short, cut_word-long}
use Rattle.wap_layout.proofs.Joining.{joined-more}

-- no word is empty
abbrev pub AreWords : List (List ℕ) → Type 0
AreWords [] = Unit {0}
AreWords (word ∷ words) = (1 ≤ length word) × AreWords words

pub room_true : (width columns needed : ℕ) → 1 ≤ columns → columns + 1 + needed ≤ width
    → has_room width columns needed ≡ true
room_true width columns needed some fits = grind (arith, nat_tests)

room_false : (width columns needed : ℕ) → width < columns + 1 + needed
    → has_room width columns needed ≡ false
room_false width columns needed over = grind (arith, nat_tests)

room_none : (width needed : ℕ) → has_room width 0 needed ≡ false
room_none width needed = grind (arith, nat_tests)

-- a line that has room takes the word
pub fill-room : (width : ℕ) (begun word : List ℕ) (words : List (List ℕ)) → 1 ≤ length begun
    → length begun + 1 + length word ≤ width
    → fill width begun (word ∷ words) ≡ fill width (begun ++ 32 ∷ word) words
fill-room width begun word words some fits =
    ap (λ room.
    cond room [] (unless_empty begun) ++ fill width (cond room (begun ++ 32 ∷ word) word) words)
    (room_true width (length begun) (length word) some fits)

-- before the first word there is no line
pub fill-first : (width : ℕ) (word : List ℕ) (words : List (List ℕ))
    → fill width [] (word ∷ words) ≡ fill width word words
fill-first width word words =
    ap (λ room. cond room [] [] ++ fill width (cond room (32 ∷ word) word) words)
    (room_none width (length word))

pub some_alone : (text : List ℕ) → 1 ≤ length text → unless_empty text ≡ text ∷ []
some_alone [] some = absurd (omega arith)
some_alone (c ∷ text) some = refl

-- a line without room is done
fill-over : (width : ℕ) (begun word : List ℕ) (words : List (List ℕ)) → 1 ≤ length begun
    → width < length begun + 1 + length word
    → fill width begun (word ∷ words) ≡ begun ∷ fill width [] (word ∷ words)
fill-over width begun word words some over =
    ap (λ room.
    cond room [] (unless_empty begun) ++ fill width (cond room (begun ++ 32 ∷ word) word) words)
    (room_false width (length begun) (length word) over)
    ∙ ap (λ l. l ++ fill width word words) (some_alone begun some)
    ∙ ap (λ l. begun ∷ l) (sym (fill-first width word words))

-- a word is cut into one part at least
record HasFirst (width : ℕ) (word : List ℕ) : Type 0 where
  part : List ℕ
  others : List (List ℕ)
  parts : cut_word width word ≡ part ∷ others
  wide : min (length word) width ≤ length part

cut_word-first : (width : ℕ) (word : List ℕ) → 1 ≤ width
    → (length word ≤ width) ⊎ (width < length word) → HasFirst width word
cut_word-first width word one (inl short) =
    record { part = word; others = []; parts = cut_word-short width word short; wide = omega arith }
cut_word-first width word one (inr long) = record {
  part = take width word;
  others = cut_word width (drop width word);
  parts = cut_word-long width word one long;
  wide = simp length-take (omega arith);
}

-- the parts of words
abbrev pub parts_of : ℕ → List (List ℕ) → List (List ℕ)
parts_of width words = flat_map (cut_word width) words

-- Words that follow a prefix that fits on a line are filled from that line on.
abbrev GoesOn : ℕ → List (List ℕ) → Type 0
GoesOn width more =
    (front : List (List ℕ)) → front ≢ [] → 1 ≤ length (joined front) → length (joined front) ≤ width
    → IsFilled width (front ++ more) (fill width (joined front) (parts_of width more))

-- the line before a word that comes after it and doesn't fit, whatever it is cut into
pub fill-before : (width : ℕ) (begun word : List ℕ) (more : List (List ℕ)) → 1 ≤ width
    → 1 ≤ length begun → width < length begun + 1 + length word
    → fill width begun (cut_word width word ++ more)
    ≡ begun ∷ fill width [] (cut_word width word ++ more)
fill-before width begun word more one some over =
    let f =
    cut_word-first width word one
    (elim (cases_lt width (length word)) [ inl long ↦ inr long | inr short ↦ inl short ]) in
    ap (λ parts. fill width begun (parts ++ more)) f.parts
    ∙ fill-over width begun f.part (f.others ++ more) some (omega (arith, f.wide))
    ∙ ap (λ parts. begun ∷ fill width [] (parts ++ more)) (sym f.parts)

filled-short : (width : ℕ) (word : List ℕ) (more : List (List ℕ)) → 1 ≤ length word
    → length word ≤ width → GoesOn width more
    → IsFilled width (word ∷ more) (fill width [] (cut_word width word ++ parts_of width more))
filled-short width word more some short goes_on =
    let e =
    ap (λ parts. fill width [] (parts ++ parts_of width more)) (cut_word-short width word short)
    ∙ fill-first width word (parts_of width more) in
    subst (λ lines. IsFilled width (word ∷ more) lines) (sym e)
    (goes_on (word ∷ []) (λ none. cc) some short)

pub fill-long : (width : ℕ) (word : List ℕ) (more : List (List ℕ)) → 1 ≤ width → width < length word
    → fill width [] (cut_word width word ++ more)
    ≡ take width word ∷ fill width [] (cut_word width (drop width word) ++ more)
fill-long width word more one long =
    ap (λ parts. fill width [] (parts ++ more)) (cut_word-long width word one long)
    ∙ fill-first width (take width word) (cut_word width (drop width word) ++ more)
    ∙ fill-before width (take width word) (drop width word) more one
    (simp length-take (omega arith)) (simp (length-take, length-drop) (omega arith))

-- a word begins a line
filled-word : (width fuel : ℕ) (word : List ℕ) (more : List (List ℕ)) → 1 ≤ width
    → length word ≤ fuel → 1 ≤ length word → GoesOn width more
    → IsFilled width (word ∷ more) (fill width [] (cut_word width word ++ parts_of width more))
filled-word width zero word more one few some goes_on = absurd (omega arith)
filled-word width (suc fuel) word more one few some goes_on =
    elim (cases_lt width (length word)) [
      | inl long ↦
          subst (λ lines. IsFilled width (word ∷ more) lines)
          (sym (fill-long width word (parts_of width more) one long))
          (cut long (filled-word width fuel (drop width word) more one
          (simp length-drop (omega arith)) (simp length-drop (omega arith)) goes_on))
      | inr short ↦ filled-short width word more some short goes_on
    ]

some_words : (words : List (List ℕ)) → words ≢ [] → 1 ≤ length words
some_words [] some = absurd (some refl)
some_words (word ∷ words) some = omega arith

joined-length : (front : List (List ℕ)) (word : List ℕ) → front ≢ []
    → length (joined (front ++ word ∷ [])) ≡ length (joined front) + 1 + length word
joined-length front word some =
    ap length (joined-more front word (some_words front some)) ∙ simp length-append (omega arith)

not_none : (front : List (List ℕ)) (word : List ℕ) → front ++ word ∷ [] ≢ []
not_none [] word none = absurd (let e = ap length none in omega arith)
not_none (first ∷ front) word none = absurd (let e = ap length none in omega arith)

filled-on : (width : ℕ) (more : List (List ℕ)) → 1 ≤ width → AreWords more → GoesOn width more
filled-on width [] one words front some begun fits =
    subst (λ lines. IsFilled width (front ++ []) lines) (sym (some_alone (joined front) begun))
    (line front []
    (record { some = some; divides = refl; fits = fits; longest = λ next others e. cc }) done)
filled-on width (word ∷ more) one words front some begun fits =
    elim (cases_lt width (length (joined front) + 1 + length word)) [
      | inl over ↦
          subst (λ lines. IsFilled width (front ++ word ∷ more) lines)
          (sym (fill-before width (joined front) word (parts_of width more) one begun over))
          (line front (word ∷ more)
          (record {
            some = some;
            divides = refl;
            fits = fits;
            longest =
                λ next others e. let same : word ≡ next = cc in
                subst (λ w. width < length (joined (front ++ w ∷ []))) same
                (rw (joined-length front word some) over);
          })
          (filled-word width (length word) word more one (omega arith) words.0
          (filled-on width more one words.1)))
      | inr room ↦
          let e =
          ap (λ parts. fill width (joined front) (parts ++ parts_of width more))
          (cut_word-short width word (omega arith))
          ∙ fill-room width (joined front) word (parts_of width more) begun room
          ∙ ap (λ l. fill width l (parts_of width more))
          (sym (joined-more front word (some_words front some))) in
          subst (λ lines. IsFilled width (front ++ word ∷ more) lines) (sym e)
          (subst
          (λ ws. IsFilled width ws (fill width (joined (front ++ word ∷ [])) (parts_of width more)))
          (append_assoc front (word ∷ []) more)
          (filled-on width more one words.1 (front ++ word ∷ []) (not_none front word) (rw
          (joined-length front word some) (omega arith)) (rw (joined-length front word some) room)))
    ]

-- what is filled by calculation is filled
pub filled-is : (width : ℕ) (words : List (List ℕ)) → 1 ≤ width → AreWords words
    → IsFilled width words (filled width words)
filled-is width [] one words = done
filled-is width (word ∷ more) one words =
    filled-word width (length word) word more one (omega arith) words.0
    (filled-on width more one words.1)
