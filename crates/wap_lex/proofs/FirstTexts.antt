-- The marks and the reserved words that begin with a first byte are all that are searched.
use Rattle.std.proofs.Common.{◌≡◌, ℕ, suc, ◌+◌, ◌-◌, ◌<◌, Bool, true, false, cond, eqb, ltb, leb}
use Rattle.std.proofs.Common.{List, [], ◌∷◌, length, map, get_or, take, drop}
use Rattle.std.proofs.Common.{refl, sym, ap, ◌∙◌, arith}
use Rattle.std.specs.Prelude.{◌&&◌, ◌||◌, nat_eq}
use Rattle.std.specs.List.{filter, list_all, list_any, starts_with, range_with_len}
use Rattle.std.specs.Int.{is_in_range}
use Rattle.std.specs.Cmp.Lexicographic.{pointwise}
use Rattle.std.proofs.lemmas.Bool.{cond-true, cond-false, and_parts, and_left, and_right, both_ways}
use Rattle.std.proofs.lemmas.Bool.{leb-true, ltb-true, eqb-true, eq-eqb, ne_eqb, false_from_ne_true}
use Rattle.std.proofs.lemmas.Bool.Decides.{nat_tests}
use Rattle.std.proofs.lemmas.List.{take_rest}
use Rattle.std.proofs.lemmas.List.FromFn.{get_or-map-range_with_len}
use Rattle.wap_base.specs.Texts.{is_same_text}
use Rattle.wap_lex.specs.ReservedWords.{reserved_words}
use Rattle.wap_lex.specs.Marks.{marks}
use Rattle.wap_lex.specs.ByFirst.{tails_of, tail_len}
use Rattle.wap_lex.specs.Calculation.{first_len, mark_len}
use Rattle.wap_lex.proofs.CommentReach.{any_all}

abbrev pub begins_with : ℕ → List ℕ → Bool
begins_with first [] = false
begins_with first (c ∷ rest) = eqb first c

-- those of the texts that begin with a byte
abbrev pub those_with : ℕ → List (List ℕ) → List (List ℕ)
those_with c = filter (begins_with c)

-- ---- words

other_first : (c : ℕ) (word other : List ℕ) → begins_with c other ≡ false
    → is_same_text (c ∷ word) other ≡ false
other_first c word [] e = refl
other_first c word (d ∷ other) e = and_left (eqb c d) (is_same_text word other) e

abbrev is_among : List ℕ → List (List ℕ) → Bool
is_among word = list_any (is_same_text word)

-- a word is among all where it is among those with its first letter
among_kept : (c : ℕ) (word : List ℕ) (words : List (List ℕ))
    → is_among (c ∷ word) (those_with c words) ≡ is_among (c ∷ word) words
among_kept c word [] = refl
among_kept c word (other ∷ words) =
    by_first (begins_with c other) refl (among_kept c word words) where
      by_first : (b : Bool) → begins_with c other ≡ b
          → is_among (c ∷ word) (those_with c words) ≡ is_among (c ∷ word) words
          → is_among (c ∷ word) (those_with c (other ∷ words))
          ≡ is_among (c ∷ word) (other ∷ words)
      by_first true e rest =
          ap (is_among (c ∷ word))
          (cond-true (begins_with c other) (other ∷ those_with c words) _ e)
          ∙ ap (λ (b : Bool). is_same_text (c ∷ word) other || b) rest
      by_first false e rest =
          ap (is_among (c ∷ word)) (cond-false (begins_with c other) _ (those_with c words) e)
          ∙ rest
          ∙ ap (λ (b : Bool). b || is_among (c ∷ word) words) (sym (other_first c word other e))

-- each is of two letters at least, the first of them one of `a` to `z`
abbrev is_plain : List ℕ → Bool
is_plain word = ltb 1 (length word) && is_in_range 97 122 (get_or word 0 0)

all_plain : list_all is_plain reserved_words ≡ true
unfolding reserved_words
all_plain = refl

none_plain : (word : List ℕ) → is_plain word ≡ false → false ≡ is_among word reserved_words
none_plain word other =
    sym (false_from_ne_true (is_among word reserved_words)
    (λ e. both_ways (is_plain word) other (any_all is_plain word reserved_words e all_plain)))

pub short_reserved : (word : List ℕ) → length word < 2 → false ≡ is_among word reserved_words
short_reserved word short =
    let few : ltb 1 (length word) ≡ false = grind (arith, nat_tests) in
    none_plain word (and_left (ltb 1 (length word)) (is_in_range 97 122 (get_or word 0 0)) few)

pub other_reserved : (word : List ℕ) → is_in_range 97 122 (get_or word 0 0) ≡ false
    → false ≡ is_among word reserved_words
other_reserved word other =
    none_plain word (and_right (ltb 1 (length word)) (is_in_range 97 122 (get_or word 0 0)) other)

-- the reserved words with the letter so many after `a`
abbrev pub words_from : ℕ → List (List ℕ)
words_from letter = those_with (97 + letter) reserved_words

abbrev pub word_rows : List (List (List ℕ))
word_rows = map words_from (range_with_len 0 26)

pub reserved_in_row : (word : List ℕ) (row : ℕ) → 0 < length word
    → is_in_range 97 122 (get_or word 0 0) ≡ true → row ≡ get_or word 0 0 - 97
    → is_among word (get_or word_rows row []) ≡ is_among word reserved_words
reserved_in_row [] row some plain is = absurd (omega arith)
reserved_in_row (c ∷ rest) row some plain is =
    let parts = and_parts (leb 97 c) (leb c 122) plain in
    let low = leb-true 97 c parts.0 in
    let high = leb-true c 122 parts.1 in
    let letter : 97 + row ≡ c = omega arith in
    let within : row < 26 = omega arith in
    ap (is_among (c ∷ rest))
    (get_or-map-range_with_len words_from 0 26 row row [] within (omega arith))
    ∙ ap (λ (n : ℕ). is_among (c ∷ rest) (those_with n reserved_words)) letter
    ∙ among_kept c rest reserved_words

-- ---- marks

-- those of the texts that begin with a byte, without it
abbrev tails_in : List (List ℕ) → ℕ → List (List ℕ)
tails_in texts c = map (drop 1) (those_with c texts)

turned : (c d : ℕ) (b : Bool) → eqb c d ≡ b → eqb d c ≡ b
turned c d true e = eq-eqb d c (sym (eqb-true c d e))
turned c d false e = ne_eqb d c (λ same. both_ways (eqb c d) e (eq-eqb c d (sym same)))

starts_other : (c : ℕ) (rest mark : List ℕ) → 0 < length mark → begins_with c mark ≡ false
    → starts_with nat_eq (c ∷ rest) mark ≡ false
starts_other c rest [] some e = absurd (omega arith)
starts_other c rest (d ∷ mark) some e =
    and_left (eqb d c) (pointwise nat_eq mark (take (length mark) rest)) (turned c d false e)

-- what the search finds after the first byte
abbrev IsFound : ℕ → List ℕ → List (List ℕ) → Type 0
IsFound c rest texts = first_len texts (c ∷ rest) ≡ tail_len (tails_in texts c) rest

found_more : (c : ℕ) (rest mark : List ℕ) (others : List (List ℕ)) → begins_with c mark ≡ true
    → IsFound c rest others
    → first_len (mark ∷ others) (c ∷ rest) ≡ tail_len (drop 1 mark ∷ tails_in others c) rest
found_more c rest [] others e inner = absurd cc
found_more c rest (d ∷ mark) others e inner =
    let n : ℕ = suc (length mark) in
    let follows = pointwise nat_eq mark (take (length mark) rest) in
    ap (λ (b : Bool). cond (b && follows) n (first_len others (c ∷ rest))) (turned c d true e)
    ∙ ap (λ (other : ℕ). cond (starts_with nat_eq rest mark) n other) inner

found_first : (c : ℕ) (rest : List ℕ) (texts : List (List ℕ))
    → list_all (λ text. ltb 0 (length text)) texts ≡ true → IsFound c rest texts
found_first c rest [] all = refl
found_first c rest (mark ∷ others) all =
    by_first (begins_with c mark) refl parts.0 (found_first c rest others parts.1) where
      parts : (ltb 0 (length mark) ≡ true) × (list_all (λ text. ltb 0 (length text)) others ≡ true)
      parts = and_parts (ltb 0 (length mark)) (list_all (λ text. ltb 0 (length text)) others) all

      by_first : (b : Bool) → begins_with c mark ≡ b → ltb 0 (length mark) ≡ true
          → IsFound c rest others → IsFound c rest (mark ∷ others)
      by_first true e long inner =
          let is = cond-true (begins_with c mark) (mark ∷ those_with c others) _ e in
          found_more c rest mark others e inner
          ∙ ap (λ (l : List (List ℕ)). tail_len (map (drop 1) l) rest) (sym is)
      by_first false e long inner =
          let is = cond-false (begins_with c mark) _ (those_with c others) e in
          let other = starts_other c rest mark (ltb-true 0 (length mark) long) e in
          ap (λ (b : Bool). cond b (length mark) (first_len others (c ∷ rest))) other
          ∙ inner
          ∙ ap (λ (l : List (List ℕ)). tail_len (map (drop 1) l) rest) (sym is)

marks_some : list_all (λ text. ltb 0 (length text)) marks ≡ true
unfolding marks
marks_some = refl

all_tails : map (tails_in marks) (range_with_len 0 256) ≡ map tails_of (range_with_len 0 256)
unfolding marks
all_tails = refl

tails_are : (c : ℕ) → c < 256 → tails_in marks c ≡ tails_of c
tails_are c is_byte =
    sym (get_or-map-range_with_len (tails_in marks) 0 256 c c [] is_byte (omega arith))
    ∙ ap (λ found. get_or found c []) all_tails
    ∙ get_or-map-range_with_len tails_of 0 256 c c [] is_byte (omega arith)

pub mark_len-first : (bytes : List ℕ) → 0 < length bytes → get_or bytes 0 0 < 256
    → tail_len (tails_of (get_or bytes 0 0)) (take (length bytes - 1) (drop 1 bytes))
    ≡ mark_len bytes
mark_len-first [] some is_byte = absurd (omega arith)
mark_len-first (c ∷ rest) some is_byte =
    ap (tail_len (tails_of c)) (take_rest (c ∷ rest) 1)
    ∙ ap (λ (l : List (List ℕ)). tail_len l rest) (sym (tails_are c is_byte))
    ∙ sym (found_first c rest marks marks_some)

pub mark_len-none : (bytes : List ℕ) → length bytes < 1 → 0 ≡ mark_len bytes
unfolding marks
mark_len-none [] none = refl
mark_len-none (c ∷ rest) none = absurd (omega arith)
