-- Words on a line that is wide enough for all of them.
use Rattle.std.proofs.Common.{◌≡◌, ℕ, ◌+◌, ◌≤◌, List, [], ◌∷◌, length, Bool}
use Rattle.std.proofs.Common.{true, false, refl, sym, subst, arith}
use Rattle.std.specs.Prelude.{filter}
use Rattle.std.specs.List.{slice_split}
use Rattle.std.specs.Str.{chars, IsUtf8}
use Rattle.std.proofs.lemmas.List.{append-nil, length-append}
use Rattle.std.proofs.lemmas.Str.{length-le-encodes, encodes-chars}
use Rattle.wap_base.proofs.Splits.{HasFirst, HasFirst-split}
use Rattle.wap_layout.specs.Blanks.{is_blank, words_of, joined, unless_empty}
use Rattle.wap_layout.specs.Layout.{IsFilled, done, line}
use Rattle.wap_layout.specs.Calculation.{filled}
use Rattle.wap_layout.proofs.Splitting.{is_word, parted}
use Rattle.wap_layout.proofs.Filling.{AreWords, filled-is, some_alone}
use Rattle.wap_layout.proofs.Laying.{AreWords-words_of}
use Rattle.wap_layout.proofs.Unique.{IsFilled-unique}

-- the columns of words, of each with one after it
abbrev columns : List (List ℕ) → ℕ
columns [] = 0
columns (word ∷ words) = length word + 1 + columns words

columns-joined : (words : List (List ℕ)) → length (joined words) ≤ columns words
columns-joined [] = omega arith
columns-joined (word ∷ []) = omega arith
columns-joined (word ∷ next ∷ words) =
    omega (arith, length-append word (32 ∷ joined (next ∷ words)), columns-joined (next ∷ words))

columns-filter : (parts : List (List ℕ)) → columns (filter is_word parts) ≤ columns parts
columns-filter [] = omega arith
columns-filter ([] ∷ parts) = omega (arith, columns-filter parts)
columns-filter ((c ∷ part) ∷ parts) = omega (arith, columns-filter parts)

columns-parted : (passes : Bool) (c : ℕ) (parts : List (List ℕ)) → HasFirst parts
    → columns (parted passes c parts) ≡ 1 + columns parts
columns-parted true c parts some = omega arith
columns-parted false c [] some = absurd (let e = some.is in cc)
columns-parted false c (part ∷ parts) some = omega arith

columns-split : (test : ℕ → Bool) (text : List ℕ)
    → columns (slice_split test text) ≡ length text + 1
columns-split test [] = refl
columns-split test (c ∷ text) = omega (
  arith,
  columns-parted (test c) c (slice_split test text) (HasFirst-split test text),
  columns-split test text,
)

joined_fits : (text : List ℕ) → length (joined (words_of text)) ≤ length text + 1
joined_fits text = omega (
  arith,
  columns-joined (words_of text),
  columns-filter (slice_split is_blank text),
  columns-split is_blank text,
)

joined_some : (word : List ℕ) (words : List (List ℕ)) → 1 ≤ length word
    → 1 ≤ length (joined (word ∷ words))
joined_some word [] some = some
joined_some word (next ∷ words) some =
    omega (arith, length-append word (32 ∷ joined (next ∷ words)))

one_line : (width : ℕ) (words : List (List ℕ)) → AreWords words → length (joined words) ≤ width
    → IsFilled width words (unless_empty (joined words))
one_line width [] each fits = done
one_line width (word ∷ words) each fits =
    subst (λ lines. IsFilled width (word ∷ words) lines)
    (sym (some_alone (joined (word ∷ words)) (joined_some word words each.0)))
    (line (word ∷ words) [] (record {
      some = λ none. cc;
      divides = sym (append-nil (word ∷ words));
      fits = fits;
      longest = λ next others e. cc;
    }) done)

-- the words of a text fill one line that is wider than the text
pub filled-one_line : (width : ℕ) (bytes : List ℕ) → IsUtf8 bytes → width ≡ length bytes + 1
    → filled width (words_of (chars bytes)) ≡ unless_empty (joined (words_of (chars bytes)))
filled-one_line width bytes text wide =
    let words = words_of (chars bytes) in
    let each = AreWords-words_of (chars bytes) in
    let few : length (chars bytes) ≤ length bytes =
    subst (λ bs. length (chars bytes) ≤ length bs) (encodes-chars bytes text)
    (length-le-encodes (chars bytes)) in
    IsFilled-unique (filled-is width words (omega arith) each)
    (one_line width words each (omega (arith, joined_fits (chars bytes))))
