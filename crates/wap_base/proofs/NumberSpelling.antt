-- The shortest spelling of a multi-byte integer: that it spells the number, that none is shorter,
-- and how a loop makes it.
use Rattle.std.proofs.Common.{◌≡◌, ℕ, zero, suc, ◌+◌, ◌*◌, ◌-◌, ◌%◌, ◌/◌, ◌^◌, ◌<◌, ◌≤◌, Bool}
use Rattle.std.proofs.Common.{false, cond, eqb, List, [], ◌∷◌, ◌++◌, length, take, drop, set, refl}
use Rattle.std.proofs.Common.{sym, ap, subst, ◌∙◌, append_assoc, add-one, ◌⊎◌, inl, inr, arith}
use Rattle.std.specs.List.{AllByRecursion}
use Rattle.std.proofs.Math.Nat.{pow-succ', mul_assoc, mul_comm}
use Rattle.std.proofs.lemmas.List.{length-append, length-drop, drop-set, length-set}
use Rattle.std.proofs.Math.Seq.{take-length}
use Rattle.std.proofs.Math.Dec.{eqb-suc-zero}
use Rattle.wap_base.specs.Numbers.{IsChain, groups_after, IsMb, IsShortest, carried, mb_spelling}

abbrev CarryOn : List ℕ → Type 0
CarryOn bytes = AllByRecursion (λ byte. 128 ≤ byte) bytes

-- ---- it is a chain

CarryOn-push : (bytes : List ℕ) (byte : ℕ) → CarryOn bytes → 128 ≤ byte
    → CarryOn (bytes ++ byte ∷ [])
CarryOn-push [] byte carry carries = (carries, tt)
CarryOn-push (first ∷ bytes) byte carry carries = (carry.0, CarryOn-push bytes byte carry.1 carries)

IsChain-end : (bytes : List ℕ) (last : ℕ) → CarryOn bytes → last < 128
    → IsChain (bytes ++ last ∷ [])
IsChain-end [] last carry small = small
IsChain-end (byte ∷ []) last carry small = (carry.0, small)
IsChain-end (byte ∷ next ∷ bytes) last carry small =
    (carry.0, IsChain-end (next ∷ bytes) last carry.1 small)

zero_or : (n : ℕ) → (n ≡ 0) ⊎ (0 < n)
zero_or zero = inl refl
zero_or (suc n) = inr (omega arith)

nonzero : (n : ℕ) → 0 < n → eqb n 0 ≡ false
nonzero zero some = absurd (omega arith)
nonzero (suc n) some = eqb-suc-zero n

carried-suc : (allowed number : ℕ) → 0 < number
    → carried (suc allowed) number ≡ carried allowed (number / 128) ++ (128 + number % 128) ∷ []
carried-suc allowed number some =
    ap (λ (b : Bool). cond b [] (carried allowed (number / 128) ++ (128 + number % 128) ∷ []))
    (nonzero number some)

pub carried-zero : (allowed : ℕ) → carried allowed 0 ≡ []
carried-zero zero = refl
carried-zero (suc allowed) = refl

-- what holds of no bytes, and of one more byte after those of fewer groups
by_carried : (P : ℕ → List ℕ → Type 0) (allowed number : ℕ) → P 0 []
    → (0 < number → P number (carried allowed (number / 128) ++ (128 + number % 128) ∷ []))
    → P number (carried (suc allowed) number)
by_carried P allowed number none some = elim (zero_or number) [
  | inl is ↦ subst (λ (n : ℕ). P n (carried (suc allowed) n)) (sym is) none
  | inr above ↦ subst (P number) (sym (carried-suc allowed number above)) (some above)
]

CarryOn-carried : (allowed number : ℕ) → CarryOn (carried allowed number)
CarryOn-carried zero number = tt
CarryOn-carried (suc allowed) number = by_carried (λ n bytes. CarryOn bytes) allowed number tt
    (λ some.
    CarryOn-push (carried allowed (number / 128)) (128 + number % 128)
    (CarryOn-carried allowed (number / 128)) (omega arith))

-- ---- its value

groups_after-append : (before : ℕ) (xs ys : List ℕ)
    → groups_after before (xs ++ ys) ≡ groups_after (groups_after before xs) ys
groups_after-append before [] ys = refl
groups_after-append before (x ∷ xs) ys = groups_after-append (128 * before + x % 128) xs ys

groups_after-carried : (allowed number : ℕ) → number < 128 ^ allowed
    → groups_after 0 (carried allowed number) ≡ number
groups_after-carried zero number within = omega arith
groups_after-carried (suc allowed) number within =
    by_carried (λ n bytes. groups_after 0 bytes ≡ n) allowed number refl
    (λ some.
    let fewer : number / 128 < 128 ^ allowed = omega (arith, pow-succ' 128 allowed) in
    groups_after-append 0 (carried allowed (number / 128)) ((128 + number % 128) ∷ [])
    ∙ ap (λ (n : ℕ). 128 * n + (128 + number % 128) % 128)
    (groups_after-carried allowed (number / 128) fewer)
    ∙ omega arith)

-- ---- none is shorter

groups_after-below : (before bound : ℕ) (bytes : List ℕ) → before < bound
    → groups_after before bytes < bound * 128 ^ length bytes
groups_after-below before bound [] below = omega arith
groups_after-below before bound (byte ∷ bytes) below =
    let tail = groups_after-below (128 * before + byte % 128) (128 * bound) bytes (omega arith) in
    let grouped : 128 * bound * 128 ^ length bytes ≡ bound * 128 ^ suc (length bytes) =
    rw (pow-succ' 128 (length bytes), mul_comm 128 bound)
    (mul_assoc bound 128 (128 ^ length bytes)) in
    omega (arith, tail, grouped)

length-carried-le : (allowed number groups : ℕ) → number < 128 ^ groups
    → length (carried allowed number) ≤ groups
length-carried-le zero number groups within = omega arith
length-carried-le (suc allowed) number zero within =
    let none : number ≡ 0 =
    omega arith in
    subst (λ (n : ℕ). length (carried (suc allowed) n) ≤ 0) (sym none) (omega arith)
length-carried-le (suc allowed) number (suc groups) within =
    by_carried (λ n bytes. length bytes ≤ suc groups) allowed number (omega arith)
    (λ some.
    let fewer : number / 128 < 128 ^ groups = omega (arith, pow-succ' 128 groups) in
    omega (
      arith,
      length-carried-le allowed (number / 128) groups fewer,
      length-append (carried allowed (number / 128)) ((128 + number % 128) ∷ []),
    ))

length-carried : (allowed number : ℕ) → length (carried allowed number) ≤ allowed
length-carried zero number = omega arith
length-carried (suc allowed) number =
    by_carried (λ n bytes. length bytes ≤ suc allowed) allowed number (omega arith)
    (λ some. omega (
      arith,
      length-carried allowed (number / 128),
      length-append (carried allowed (number / 128)) ((128 + number % 128) ∷ []),
    ))

at_least : (number : ℕ) (others : List ℕ) → IsMb others number
    → length (mb_spelling number) ≤ length others
at_least number [] others = absurd others.chain
at_least number (byte ∷ bytes) others =
    let below = groups_after-below 0 1 (byte ∷ bytes) (omega arith) in
    let value = others.value in
    let within : number / 128 < 128 ^ length bytes =
    omega (arith, below, value, pow-succ' 128 (length bytes)) in
    omega (
      arith,
      length-carried-le 4 (number / 128) (length bytes) within,
      length-append (carried 4 (number / 128)) (number % 128 ∷ []),
    )

pub IsShortest-mb_spelling : (number : ℕ) → number < 2 ^ 32 → IsShortest (mb_spelling number) number
IsShortest-mb_spelling number fits =
    let front = carried 4 (number / 128) in
    let fewer : number / 128 < 128 ^ 4 = omega arith in
    record {
      spells = record {
        few =
            omega (arith, length-carried 4 (number / 128), length-append front (number % 128 ∷ []));
        chain = IsChain-end front (number % 128) (CarryOn-carried 4 (number / 128)) (omega arith);
        value =
            groups_after-append 0 front (number % 128 ∷ [])
            ∙ ap (λ (n : ℕ). 128 * n + number % 128 % 128)
            (groups_after-carried 4 (number / 128) fewer)
            ∙ omega arith;
        fits = fits;
      };
      shortest = at_least number;
    }

-- ---- a loop that writes the groups from the last one

pub record Continues (start rest : ℕ) (groups whole : List ℕ) : Type 0 where
  pub five : length groups ≡ 5
  pub within : start ≤ 4
  pub room : rest < 128 ^ start
  pub goes_on : carried start rest ++ drop start groups ≡ whole

pub one_more : (start rest : ℕ) (groups whole : List ℕ) → 0 < rest
    → Continues start rest groups whole
    → Continues (start - 1) (rest / 128) (set groups (start - 1) (128 + rest % 128)) whole
one_more zero rest groups whole some so_far = absurd (omega (arith, so_far.room))
one_more (suc start) rest groups whole some so_far =
    let within = so_far.within in
    let room : rest / 128 < 128 ^ start = omega (arith, so_far.room, pow-succ' 128 start) in
    let place : suc start - 1 ≡ start = omega arith in
    let five = so_far.five in
    let inside : start < length groups = omega arith in
    let written : drop start (set groups start (128 + rest % 128))
    ≡ (128 + rest % 128) ∷ drop (suc start) groups =
    drop-set groups start (128 + rest % 128) inside ∙ rw add-one refl in
    rw place record {
      five = length-set groups start (128 + rest % 128) ∙ five;
      within = omega arith;
      room = room;
      goes_on = ap (λ (l : List ℕ). carried start (rest / 128) ++ l) written
          ∙ sym (append_assoc (carried start (rest / 128)) ((128 + rest % 128) ∷ [])
          (drop (suc start) groups))
          ∙ ap (λ (l : List ℕ). l ++ drop (suc start) groups) (sym (carried-suc start rest some))
          ∙ so_far.goes_on;
    }

pub all_written : (start rest : ℕ) (groups whole : List ℕ) → rest ≤ 0
    → Continues start rest groups whole → drop start groups ≡ whole
all_written start rest groups whole none so_far =
    let nothing : rest ≡ 0 = omega arith in
    ap (λ (l : List ℕ). l ++ drop start groups) (sym (carried-zero start))
    ∙ ap (λ (n : ℕ). carried start n ++ drop start groups) (sym nothing) ∙ so_far.goes_on

pub taken_whole : (start : ℕ) (groups : List ℕ) → length groups ≡ 5 → start ≤ 4
    → take (5 - start) (drop start groups) ≡ drop start groups
taken_whole start groups five within =
    let so_long : length (drop start groups) ≡ 5 - start =
    omega (arith, length-drop start groups) in
    ap (λ (n : ℕ). take n (drop start groups)) (sym so_long) ∙ take-length (drop start groups)
