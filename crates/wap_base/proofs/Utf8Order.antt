-- The order of UTF-8 is the order of characters: comparing the bytes of two texts is comparing the
-- texts. It holds for all lists of numbers, scalar values or not.
use Rattle.std.proofs.Common.{inl, inr, ◌≡◌, ℕ, ◌+◌, ◌/◌, ◌%◌, ◌<◌, ◌≤◌, List, []}
use Rattle.std.proofs.Common.{◌∷◌, ◌++◌, refl, sym, ap, ◌∙◌, subst, arith}
use Rattle.std.specs.Prelude.{encode_utf8_all}
use Rattle.std.specs.Char.{encode_utf8}
use Rattle.std.specs.Ordering.{nat_cmp, ordering_reverse}
use Rattle.std.specs.declared.cmp.Ordering.TheVariants.{Less, Greater}
use Rattle.std.specs.Cmp.Lexicographic.{slice_cmp}
use Rattle.std.proofs.lemmas.Bool.{cases_lt, cases_order}
use Rattle.std.proofs.lemmas.Bool.Decides.{nat_tests}
use Rattle.std.proofs.lemmas.Cmp.{nat_list_cmp_total}

-- the first numbers decide, or else the rest
pub cmp_first : (x y : ℕ) (xs ys : List ℕ) → x < y → slice_cmp nat_cmp (x ∷ xs) (y ∷ ys) ≡ Less
cmp_first x y xs ys below = grind (arith, nat_tests)

pub cmp_rest : (x : ℕ) (xs ys : List ℕ)
    → slice_cmp nat_cmp (x ∷ xs) (x ∷ ys) ≡ slice_cmp nat_cmp xs ys
cmp_rest x xs ys = grind (arith, nat_tests)

-- a list that stands before another
record IsBelow (xs ys : List ℕ) : Type 0 where
  compared : slice_cmp nat_cmp xs ys ≡ Less

below_first : {x y : ℕ} {xs ys : List ℕ} → x < y → IsBelow (x ∷ xs) (y ∷ ys)
below_first {x} {y} {xs} {ys} less = record { compared = cmp_first x y xs ys less }

-- the first numbers decide, or the rest where they are one
below_next : {x y : ℕ} {xs ys : List ℕ} → x ≤ y → (x ≡ y → IsBelow xs ys)
    → IsBelow (x ∷ xs) (y ∷ ys)
below_next {x} {y} {xs} {ys} upto rest = elim (cases_lt x y) [
  | inl less ↦ below_first less
  | inr above ↦
      let same : x ≡ y = omega arith in
      record {
        compared =
            subst (λ (n : ℕ). slice_cmp nat_cmp (x ∷ xs) (n ∷ ys) ≡ Less) same
            (cmp_rest x xs ys ∙ (rest same).compared);
      }
]

-- one prefix on both sides
cmp_prefix : (front xs ys : List ℕ)
    → slice_cmp nat_cmp (front ++ xs) (front ++ ys) ≡ slice_cmp nat_cmp xs ys
cmp_prefix [] xs ys = refl
cmp_prefix (x ∷ front) xs ys = cmp_rest x (front ++ xs) (front ++ ys) ∙ cmp_prefix front xs ys

-- the bytes of a character by how many there are
one_byte : (c : ℕ) → c < 128 → encode_utf8 c ≡ c ∷ []
unfolding encode_utf8
one_byte c h = grind (arith, nat_tests)

pub two_bytes : (c : ℕ) → 128 ≤ c → c < 2048
    → encode_utf8 c ≡ (192 + c / 64) ∷ (128 + c % 64) ∷ []
unfolding encode_utf8
two_bytes c g h = grind (arith, nat_tests)

three_bytes : (c : ℕ) → 2048 ≤ c → c < 65536
    → encode_utf8 c ≡ (224 + c / 4096) ∷ (128 + c / 64 % 64) ∷ (128 + c % 64) ∷ []
unfolding encode_utf8
three_bytes c g h = grind (arith, nat_tests)

four_bytes : (c : ℕ) → 65536 ≤ c
    → encode_utf8 c
    ≡ (240 + c / 262144) ∷ (128 + c / 4096 % 64) ∷ (128 + c / 64 % 64) ∷ (128 + c % 64) ∷ []
unfolding encode_utf8
four_bytes c g = grind (arith, nat_tests)

-- characters of as many bytes: the first byte that differs is greater in the greater character
two_two : (c d : ℕ) (r t : List ℕ) → c < d
    → IsBelow ((192 + c / 64) ∷ (128 + c % 64) ∷ r) ((192 + d / 64) ∷ (128 + d % 64) ∷ t)
two_two c d r t below =
    let lead : 192 + c / 64 ≤ 192 + d / 64 = omega arith in
    let last : 192 + c / 64 ≡ 192 + d / 64 → 128 + c % 64 < 128 + d % 64 = λ same. omega arith in
    below_next lead (λ same. below_first (last same))

three_three : (c d : ℕ) (r t : List ℕ) → c < d
    → IsBelow ((224 + c / 4096) ∷ (128 + c / 64 % 64) ∷ (128 + c % 64) ∷ r)
    ((224 + d / 4096) ∷ (128 + d / 64 % 64) ∷ (128 + d % 64) ∷ t)
three_three c d r t below =
    let lead : 224 + c / 4096 ≤ 224 + d / 4096 = omega arith in
    let middle : 224 + c / 4096 ≡ 224 + d / 4096 → 128 + c / 64 % 64 ≤ 128 + d / 64 % 64 =
    λ same. omega arith in
    let last : 224 + c / 4096 ≡ 224 + d / 4096 → 128 + c / 64 % 64 ≡ 128 + d / 64 % 64
    → 128 + c % 64 < 128 + d % 64 = λ same also. omega arith in
    below_next lead (λ same. below_next (middle same) (λ also. below_first (last same also)))

four_four : (c d : ℕ) (r t : List ℕ) → c < d
    → IsBelow ((240 + c / 262144) ∷ (128 + c / 4096 % 64) ∷ (128 + c / 64 % 64) ∷ (128 + c % 64)
    ∷ r) ((240 + d / 262144) ∷ (128 + d / 4096 % 64) ∷ (128 + d / 64 % 64) ∷ (128 + d % 64) ∷ t)
four_four c d r t below =
    let lead : 240 + c / 262144 ≤ 240 + d / 262144 = omega arith in
    let second : 240 + c / 262144 ≡ 240 + d / 262144 → 128 + c / 4096 % 64 ≤ 128 + d / 4096 % 64 =
    λ same. omega arith in
    let third : 240 + c / 262144 ≡ 240 + d / 262144 → 128 + c / 4096 % 64 ≡ 128 + d / 4096 % 64
    → 128 + c / 64 % 64 ≤ 128 + d / 64 % 64 = λ same also. omega arith in
    let last : 240 + c / 262144 ≡ 240 + d / 262144 → 128 + c / 4096 % 64 ≡ 128 + d / 4096 % 64
    → 128 + c / 64 % 64 ≡ 128 + d / 64 % 64 → 128 + c % 64 < 128 + d % 64 =
    λ same also too. omega arith in
    below_next lead (λ same.
    below_next (second same) (λ also.
    below_next (third same also) (λ too. below_first (last same also too))))

-- a smaller character goes before a greater one, whatever follows
below-encode_utf8 : (c d : ℕ) (r t : List ℕ) → c < d
    → IsBelow (encode_utf8 c ++ r) (encode_utf8 d ++ t)
below-encode_utf8 c d r t less = elim (cases_lt c 128) [
  | inl c_one ↦ rw (one_byte c c_one) (elim (cases_lt d 128) [
    | inl d_one ↦ rw (one_byte d d_one) (below_first less)
    | inr d_more ↦ elim (cases_lt d 2048) [
      | inl d_two ↦ rw (two_bytes d d_more d_two) (below_first (omega arith))
      | inr d_more' ↦ elim (cases_lt d 65536) [
        | inl d_three ↦ rw (three_bytes d d_more' d_three) (below_first (omega arith))
        | inr d_four ↦ rw (four_bytes d d_four) (below_first (omega arith))
      ]
    ]
  ])
  | inr c_more ↦ elim (cases_lt c 2048) [
    | inl c_two ↦ rw (two_bytes c c_more c_two) (elim (cases_lt d 2048) [
      | inl d_two ↦
          let d_more : 128 ≤ d = omega arith in
          rw (two_bytes d d_more d_two) (two_two c d r t less)
      | inr d_more ↦ elim (cases_lt d 65536) [
        | inl d_three ↦ rw (three_bytes d d_more d_three) (below_first (omega arith))
        | inr d_four ↦ rw (four_bytes d d_four) (below_first (omega arith))
      ]
    ])
    | inr c_more' ↦ elim (cases_lt c 65536) [
      | inl c_three ↦ rw (three_bytes c c_more' c_three) (elim (cases_lt d 65536) [
        | inl d_three ↦
            let d_more : 2048 ≤ d = omega arith in
            rw (three_bytes d d_more d_three) (three_three c d r t less)
        | inr d_four ↦ rw (four_bytes d d_four) (below_first (omega arith))
      ])
      | inr c_four ↦
          let d_four : 65536 ≤ d = omega arith in
          rw (four_bytes c c_four, four_bytes d d_four) (four_four c d r t less)
    ]
  ]
]

-- every character has a first byte
leading : (c : ℕ) → (b : ℕ) × (bs : List ℕ) × (encode_utf8 c ≡ b ∷ bs)
leading c = elim (cases_lt c 128) [
  | inl one ↦ (_, _, one_byte c one)
  | inr more ↦ elim (cases_lt c 2048) [
    | inl two ↦ (_, _, two_bytes c more two)
    | inr more' ↦ elim (cases_lt c 65536) [
      | inl three ↦ (_, _, three_bytes c more' three)
      | inr four ↦ (_, _, four_bytes c four)
    ]
  ]
]

nothing_before : (c : ℕ) (t : List ℕ) → slice_cmp nat_cmp [] (encode_utf8 c ++ t) ≡ Less
nothing_before c t = rw ((leading c).2) refl

before_nothing : (c : ℕ) (r : List ℕ) → slice_cmp nat_cmp (encode_utf8 c ++ r) [] ≡ Greater
before_nothing c r = rw ((leading c).2) refl

-- the two comparisons after a first character each
same_step : (c d : ℕ) (r t cs ds : List ℕ) → slice_cmp nat_cmp r t ≡ slice_cmp nat_cmp cs ds
    → slice_cmp nat_cmp (encode_utf8 c ++ r) (encode_utf8 d ++ t)
    ≡ slice_cmp nat_cmp (c ∷ cs) (d ∷ ds)
same_step c d r t cs ds rest = elim (cases_order c d) [
  | inl same ↦
      subst (λ (n : ℕ). slice_cmp nat_cmp (encode_utf8 c ++ r) (encode_utf8 n ++ t)
      ≡ slice_cmp nat_cmp (c ∷ cs) (n ∷ ds)) same
      (cmp_prefix (encode_utf8 c) r t ∙ rest ∙ sym (cmp_rest c cs ds))
  | inr apart ↦ elim apart [
    | inl less ↦ (below-encode_utf8 c d r t less).compared ∙ sym (cmp_first c d cs ds less)
    | inr more ↦
        nat_list_cmp_total.antisymm (encode_utf8 c ++ r) (encode_utf8 d ++ t)
        ∙ ap ordering_reverse
        ((below-encode_utf8 d c t r more).compared ∙ sym (cmp_first d c ds cs more))
        ∙ sym (nat_list_cmp_total.antisymm (c ∷ cs) (d ∷ ds))
  ]
]

-- the order of the bytes is the order of the characters
pub cmp-encode_utf8_all : (cs ds : List ℕ)
    → slice_cmp nat_cmp (encode_utf8_all cs) (encode_utf8_all ds) ≡ slice_cmp nat_cmp cs ds
cmp-encode_utf8_all [] [] = refl
cmp-encode_utf8_all [] (d ∷ ds) = nothing_before d (encode_utf8_all ds)
cmp-encode_utf8_all (c ∷ cs) [] = before_nothing c (encode_utf8_all cs)
cmp-encode_utf8_all (c ∷ cs) (d ∷ ds) =
    same_step c d (encode_utf8_all cs) (encode_utf8_all ds) cs ds (cmp-encode_utf8_all cs ds)
