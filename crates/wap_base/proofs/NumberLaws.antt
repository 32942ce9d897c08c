-- Reading a multi-byte integer: what is read, what is refused, and that nothing else is.
use Rattle.std.proofs.Common.{◌≡◌, ℕ, zero, suc, ◌+◌, ◌*◌, ◌%◌, ◌^◌, ◌<◌, ◌≤◌, Bool, true}
use Rattle.std.proofs.Common.{false, cond, ltb, List, [], ◌∷◌, ◌++◌, length, drop, Ok}
use Rattle.std.proofs.Common.{Err, refl, ap, ◌∙◌, ◌⊎◌, inl, inr, arith}
use Rattle.std.specs.List.{AllByRecursion}
use Rattle.std.proofs.lemmas.Bool.{cases_lt, ltb-true, ltb-false, lt-ltb, le-ltb}
use Rattle.wap_base.specs.declared.number.ReadFault.TheVariants.{Short, TooLong}
use Rattle.wap_base.specs.Numbers.{IsChain, groups_after, ReadsMb, EndsInside}
use Rattle.wap_base.specs.Numbers.{IsTooLong, mb_after, mb_at}
use Rattle.wap_base.proofs.Choices.{chosen, ok_same}

abbrev CarryOn : List ℕ → Type 0
CarryOn bytes = AllByRecursion (λ byte. 128 ≤ byte) bytes

chain-cons : (byte : ℕ) (bytes : List ℕ) → 128 ≤ byte → IsChain bytes → IsChain (byte ∷ bytes)
chain-cons byte [] carries chain = absurd chain
chain-cons byte (next ∷ bytes) carries chain = (carries, chain)

-- ---- what is read

record Took (allowed before place : ℕ) (left : List ℕ) (number next : ℕ) : Type 0 where
  bytes : List ℕ
  rest : List ℕ
  split : left ≡ bytes ++ rest
  few : length bytes ≤ allowed
  chain : IsChain bytes
  value : groups_after before bytes ≡ number
  fits : number < 2 ^ 32
  next_is : next ≡ place + length bytes

takes : (start end allowed before place : ℕ) (left : List ℕ) (number next : ℕ)
    → mb_after start end allowed before place left ≡ Ok (number, next)
    → Took allowed before place left number next
takes start end zero before place left number next e = absurd cc
takes start end (suc allowed) before place [] number next e = absurd cc
takes start end (suc allowed) before place (byte ∷ left) number next e =
    let value = 128 * before + byte % 128 in
    elim (chosen (ltb value (2 ^ 32)) (cond (ltb byte 128) (Ok (value, place + 1)) (mb_after start
    end allowed value (place + 1) left)) (Err (TooLong start)) (Ok (number, next)) e) [
      | inl within ↦
          let fits : value < 2 ^ 32 = ltb-true _ _ within.0 in
          elim (chosen (ltb byte 128) (Ok (value, place + 1))
          (mb_after start end allowed value (place + 1) left) (Ok (number, next)) within.1) [
            | inl last ↦
                let small : byte < 128 = ltb-true _ _ last.0 in
                let same = ok_same (value, place + 1) (number, next) last.1 in
                let number_is : value ≡ number = ap (λ (p : ℕ × ℕ). p.0) same in
                let next_is : place + 1 ≡ next = ap (λ (p : ℕ × ℕ). p.1) same in
                record {
                  bytes = byte ∷ [];
                  rest = left;
                  split = refl;
                  few = omega arith;
                  chain = small;
                  value = number_is;
                  fits = omega arith;
                  next_is = omega arith;
                }
            | inr more ↦
                let tail = takes start end allowed value (place + 1) left number next more.1 in
                let few = tail.few in
                let next_is = tail.next_is in
                record {
                  bytes = byte ∷ tail.bytes;
                  rest = tail.rest;
                  split = ap (λ (l : List ℕ). byte ∷ l) tail.split;
                  few = omega arith;
                  chain = chain-cons byte tail.bytes (ltb-false _ _ more.0) tail.chain;
                  value = tail.value;
                  fits = tail.fits;
                  next_is = omega arith;
                }
          ]
      | inr over ↦ absurd cc
    ]

-- the value only grows
grows : (before : ℕ) (bytes : List ℕ) → before ≤ groups_after before bytes
grows before [] = omega arith
grows before (byte ∷ bytes) = omega (arith, grows (128 * before + byte % 128) bytes)

again : (start end allowed before place : ℕ) (bytes rest : List ℕ) → IsChain bytes
    → length bytes ≤ allowed → groups_after before bytes < 2 ^ 32
    → mb_after start end allowed before place (bytes ++ rest)
    ≡ Ok (groups_after before bytes, place + length bytes)
again start end allowed before place [] rest chain few fits = absurd chain
again start end zero before place (byte ∷ bytes) rest chain few fits = absurd (omega arith)
again start end (suc allowed) before place (byte ∷ []) rest chain few fits =
    rw (lt-ltb (128 * before + byte % 128) (2 ^ 32) fits, lt-ltb byte 128 chain) refl
again start end (suc allowed) before place (byte ∷ next ∷ bytes) rest chain few fits =
    let value = 128 * before + byte % 128 in
    let small : value < 2 ^ 32 = omega (arith, grows value (next ∷ bytes)) in
    let tail =
    again start end allowed value (place + 1) (next ∷ bytes) rest chain.1 (omega arith) fits in
    let place_is : place + 1 + length (next ∷ bytes) ≡ place + length (byte ∷ next ∷ bytes) =
    omega arith in
    rw (lt-ltb value (2 ^ 32) small, le-ltb byte 128 chain.0)
    (tail ∙ ap (λ (n : ℕ). Ok (groups_after value (next ∷ bytes), n)) place_is)

-- ---- what is cut short

stops_short : (start end allowed before place at : ℕ) (left : List ℕ)
    → mb_after start end allowed before place left ≡ Err (Short at)
    → (at ≡ end) × (length left < allowed) × CarryOn left
stops_short start end zero before place at left e = absurd cc
stops_short start end (suc allowed) before place at [] e = (cc, omega arith, tt)
stops_short start end (suc allowed) before place at (byte ∷ left) e =
    let value = 128 * before + byte % 128 in
    elim (chosen (ltb value (2 ^ 32)) (cond (ltb byte 128) (Ok (value, place + 1))
    (mb_after start end allowed value (place + 1) left)) (Err (TooLong start)) (Err (Short at)) e) [
      | inl within ↦
          elim (chosen (ltb byte 128) (Ok (value, place + 1))
          (mb_after start end allowed value (place + 1) left) (Err (Short at)) within.1) [
            | inl last ↦ absurd (cc last.1)
            | inr more ↦
                let tail = stops_short start end allowed value (place + 1) at left more.1 in
                let few = tail.1 in
                (tail.0, omega arith, (ltb-false _ _ more.0, tail.2))
          ]
      | inr over ↦ absurd (cc over.1)
    ]

-- a bound that each byte takes 128 times as large
scaled : ℕ → ℕ → ℕ
scaled zero bound = bound
scaled (suc allowed) bound = scaled allowed (128 * bound)

scaled-grows : (allowed bound : ℕ) → bound ≤ scaled allowed bound
unfolding scaled
scaled-grows zero bound = omega arith
scaled-grows (suc allowed) bound = omega (arith, scaled-grows allowed (128 * bound))

fails_short : (start end allowed before place bound : ℕ) (left : List ℕ) → before < bound
    → scaled allowed bound ≤ 34359738368 → length left < allowed → CarryOn left
    → mb_after start end allowed before place left ≡ Err (Short end)
unfolding scaled
fails_short start end zero before place bound left below room few carry = absurd (omega arith)
fails_short start end (suc allowed) before place bound [] below room few carry = refl
fails_short start end (suc zero) before place bound (byte ∷ left) below room few carry =
    absurd (omega arith)
fails_short start end (suc (suc allowed)) before place bound (byte ∷ left) below room few carry =
    let value = 128 * before + byte % 128 in
    let small : value < 2 ^ 32 = omega (arith, scaled-grows allowed (128 * (128 * bound))) in
    rw (lt-ltb value (2 ^ 32) small, le-ltb byte 128 carry.0) (fails_short start end
    (suc allowed) value (place + 1) (128 * bound) left (omega arith) room (omega arith) carry.1)

-- ---- what is too long

record Over (allowed before : ℕ) (left : List ℕ) : Type 0 where
  bytes : List ℕ
  rest : List ℕ
  split : left ≡ bytes ++ rest
  count : length bytes ≡ allowed
  over : CarryOn bytes ⊎ (IsChain bytes × (2 ^ 32 ≤ groups_after before bytes))

over-cons : (byte allowed before : ℕ) (left : List ℕ) → 128 ≤ byte
    → Over allowed (128 * before + byte % 128) left → Over (suc allowed) before (byte ∷ left)
over-cons byte allowed before left carries tail =
    record {
      bytes = byte ∷ tail.bytes;
      rest = tail.rest;
      split = ap (λ (l : List ℕ). byte ∷ l) tail.split;
      count = ap suc tail.count;
      over = elim tail.over [
        | inl carry ↦ inl (carries, carry)
        | inr big ↦ inr (chain-cons byte tail.bytes carries big.0, big.1)
      ];
    }

stops_over : (start end allowed before place bound at : ℕ) (left : List ℕ) → before < bound
    → scaled allowed bound ≤ 34359738368
    → mb_after start end allowed before place left ≡ Err (TooLong at)
    → (at ≡ start) × Over allowed before left
unfolding scaled
stops_over start end zero before place bound at left below room e =
    (cc, record { bytes = []; rest = left; split = refl; count = refl; over = inl tt })
stops_over start end (suc allowed) before place bound at [] below room e = absurd cc
stops_over start end (suc allowed) before place bound at (byte ∷ left) below room e =
    let value = 128 * before + byte % 128 in
    elim (chosen (ltb value (2 ^ 32)) (cond (ltb byte 128) (Ok (value, place + 1)) (mb_after start
    end allowed value (place + 1) left)) (Err (TooLong start)) (Err (TooLong at)) e) [
      | inl within ↦
          elim (chosen (ltb byte 128) (Ok (value, place + 1))
          (mb_after start end allowed value (place + 1) left) (Err (TooLong at)) within.1) [
            | inl last ↦ absurd (cc last.1)
            | inr more ↦
                let tail =
                stops_over start end allowed value (place + 1) (128 * bound) at left
                (omega arith) room more.1 in
                (tail.0, over-cons byte allowed before left (ltb-false _ _ more.0) tail.1)
          ]
      | inr over ↦
          (cc over.1, last_over allowed before bound byte left below room (ltb-false _ _ over.0))
    ]
  where
    last_over : (allowed before bound byte : ℕ) (left : List ℕ) → before < bound
        → scaled allowed (128 * bound) ≤ 34359738368 → 2 ^ 32 ≤ 128 * before + byte % 128
        → Over (suc allowed) before (byte ∷ left)
    last_over zero before bound byte left below room big =
        record {
          bytes = byte ∷ [];
          rest = left;
          split = refl;
          count = refl;
          over = elim (cases_lt byte 128) [
            | inl small ↦ inr (small, big)
            | inr carries ↦ inl (carries, tt)
          ];
        }
    last_over (suc allowed) before bound byte left below room big =
        absurd (omega (arith, scaled-grows allowed (128 * (128 * bound))))

-- both ways lead to one end
both : {A : Type 0} (b : Bool) (x y : A) → x ≡ y → cond b x y ≡ y
both true x y same = same
both false x y same = refl

fails_carry : (start end allowed before place : ℕ) (bytes rest : List ℕ) → length bytes ≡ allowed
    → CarryOn bytes → mb_after start end allowed before place (bytes ++ rest) ≡ Err (TooLong start)
fails_carry start end zero before place [] rest count carry = refl
fails_carry start end zero before place (byte ∷ bytes) rest count carry = absurd (omega arith)
fails_carry start end (suc allowed) before place [] rest count carry = absurd (omega arith)
fails_carry start end (suc allowed) before place (byte ∷ bytes) rest count carry =
    let value = 128 * before + byte % 128 in
    let tail = fails_carry start end allowed value (place + 1) bytes rest (omega arith) carry.1 in
    both (ltb value (2 ^ 32)) (cond (ltb byte 128) (Ok (value, place + 1))
    (mb_after start end allowed value (place + 1) (bytes ++ rest))) (Err (TooLong start))
    (rw (le-ltb byte 128 carry.0) tail)

fails_big : (start end allowed before place : ℕ) (bytes rest : List ℕ) → length bytes ≤ allowed
    → IsChain bytes → 2 ^ 32 ≤ groups_after before bytes
    → mb_after start end allowed before place (bytes ++ rest) ≡ Err (TooLong start)
fails_big start end allowed before place [] rest few chain big = absurd chain
fails_big start end zero before place (byte ∷ bytes) rest few chain big = absurd (omega arith)
fails_big start end (suc allowed) before place (byte ∷ []) rest few chain big =
    rw (le-ltb (128 * before + byte % 128) (2 ^ 32) big) refl
fails_big start end (suc allowed) before place (byte ∷ next ∷ bytes) rest few chain big =
    let value = 128 * before + byte % 128 in
    let tail =
    fails_big start end allowed value (place + 1) (next ∷ bytes) rest (omega arith) chain.1 big in
    both (ltb value (2 ^ 32)) (cond (ltb byte 128) (Ok (value, place + 1))
    (mb_after start end allowed value (place + 1) (next ∷ bytes ++ rest))) (Err (TooLong start))
    (rw (le-ltb byte 128 chain.0) tail)

-- ---- the laws at a place of an input

pub mb_takes : (input : List ℕ) (place number next : ℕ) → mb_at input place ≡ Ok (number, next)
    → ReadsMb input place number next
unfolding mb_at
mb_takes input place number next e =
    let took = takes place (length input) 5 0 place (drop place input) number next e in
    record {
      bytes = took.bytes;
      rest = took.rest;
      split = took.split;
      number_is =
          record { few = took.few; chain = took.chain; value = took.value; fits = took.fits };
      next_is = took.next_is;
    }

pub mb_again : (input : List ℕ) (place number next : ℕ) → ReadsMb input place number next
    → mb_at input place ≡ Ok (number, next)
unfolding mb_at
mb_again input place number next reads =
    let is = reads.number_is in
    let fits : groups_after 0 reads.bytes < 2 ^ 32 = rw is.value is.fits in
    rw reads.split (again place (length input) 5 0 place reads.bytes reads.rest is.chain is.few fits
    ∙ rw (is.value, ← reads.next_is) refl)

pub mb_stops_short : (input : List ℕ) (place at : ℕ) → mb_at input place ≡ Err (Short at)
    → EndsInside (drop place input) × (at ≡ length input)
unfolding mb_at
mb_stops_short input place at e =
    let stops = stops_short place (length input) 5 0 place at (drop place input) e in
    (record { few = stops.1; carry_on = stops.2 }, stops.0)

pub mb_fails_short : (input : List ℕ) (place : ℕ) → EndsInside (drop place input)
    → mb_at input place ≡ Err (Short (length input))
unfolding mb_at scaled
mb_fails_short input place ends =
    fails_short place (length input) 5 0 place 1 (drop place input) (omega arith)
    (omega arith) ends.few ends.carry_on

pub mb_stops_over : (input : List ℕ) (place at : ℕ) → mb_at input place ≡ Err (TooLong at)
    → IsTooLong (drop place input) × (at ≡ place)
unfolding mb_at scaled
mb_stops_over input place at e =
    let stops =
    stops_over place (length input) 5 0 place 1 at (drop place input) (omega arith)
    (omega arith) e in
    let over = stops.1 in (
      record {
        bytes = over.bytes;
        rest = over.rest;
        split = over.split;
        five = over.count;
        over = over.over;
      },
      stops.0,
    )

pub mb_fails_over : (input : List ℕ) (place : ℕ) → IsTooLong (drop place input)
    → mb_at input place ≡ Err (TooLong place)
unfolding mb_at
mb_fails_over input place long =
    rw long.split (elim long.over [
      | inl carry ↦ fails_carry place (length input) 5 0 place long.bytes long.rest long.five carry
      | inr big ↦
          fails_big place (length input) 5 0 place long.bytes long.rest
          (omega (arith, long.five)) big.0 big.1
    ])
