-- One byte, so many bytes and a number are read, and refused.
use Rattle.std.proofs.Common.{◌≡◌, ℕ, ◌≤◌, Bool, cond, ltb, List, [], ◌∷◌, ◌++◌, length, take}
use Rattle.std.proofs.Common.{drop, Result, Ok, Err, refl, sym, ap, ◌∙◌, inl, inr, arith}
use Rattle.std.proofs.lemmas.Bool.{ltb-true, ltb-false, lt-ltb, le-ltb}
use Rattle.std.proofs.lemmas.List.{length-append, length-take-le}
use Rattle.std.proofs.lemmas.List.{take-append-drop, take_at, drop_at}
use Rattle.wap_base.specs.Numbers.{IsMb, ReadsMb, mb_at}
use Rattle.wap_base.specs.declared.number.ReadFault.{ReadFault}
use Rattle.wap_base.specs.declared.number.ReadFault.TheVariants as number
use Rattle.wap_base.proofs.Choices.{chosen}
use Rattle.wap_base.proofs.NumberLaws.{mb_takes, mb_again, mb_stops_short, mb_fails_short}
use Rattle.wap_base.proofs.NumberLaws.{mb_stops_over, mb_fails_over}
use Rattle.wap_base.specs.formats.Sequences.{IsByte, AreBytes}
use Rattle.wap_base.specs.formats.Refusal.{LacksByte, LacksBytes, RefusesNumber}
use Rattle.wap_base.specs.formats.ByteReading.{byte_at, taken_at, numbered, number_at}
use Rattle.wap_base.proofs.formats.Readers.{Reads, pair_same}

-- ---- bytes

-- one byte
pub reads_byte : {E : Type 0} (short : ℕ → E) → Reads (byte_at short) IsByte (LacksByte short)
reads_byte {E} short = record { takes = takes; again = again; stops = stops; fails = fails }
  where
    takes : (end : ℕ) (bytes : List ℕ) (x : ℕ) (rest : List ℕ)
        → byte_at short end bytes ≡ Ok (x, rest)
        → (front : List ℕ) × (bytes ≡ front ++ rest) × IsByte front x
    takes end [] x rest e = absurd cc
    takes end (byte ∷ others) x rest e =
        let same = pair_same byte x others rest e in
        (x ∷ [], ap (λ (b : ℕ). b ∷ others) same.0 ∙ ap (λ (l : List ℕ). x ∷ l) same.1, refl)

    again : (end : ℕ) (front : List ℕ) (x : ℕ) (rest : List ℕ) → IsByte front x
        → byte_at short end (front ++ rest) ≡ Ok (x, rest)
    again end front x rest is = ap (λ (l : List ℕ). byte_at short end (l ++ rest)) is

    stops : (end : ℕ) (bytes : List ℕ) (found : E) → byte_at short end bytes ≡ Err found
        → LacksByte short end bytes found
    stops end [] found e = (refl, cc)
    stops end (byte ∷ others) found e = absurd cc

    fails : (end : ℕ) (bytes : List ℕ) (found : E) → LacksByte short end bytes found
        → byte_at short end bytes ≡ Err found
    fails end bytes found lacks = ap (byte_at short end) lacks.0 ∙ ap Err (sym lacks.1)

module _ {E : Type 0} (short : ℕ → E) (size : ℕ) where
  -- what is taken is a front of this length
  taken_takes : (end : ℕ) (bytes : List ℕ) (x : List ℕ) (rest : List ℕ)
      → taken_at short size end bytes ≡ Ok (x, rest)
      → (front : List ℕ) × (bytes ≡ front ++ rest) × AreBytes size front x
  taken_takes end bytes x rest e =
      elim (chosen (ltb (length bytes) size) (Err (short end))
      (Ok (take size bytes, drop size bytes)) (Ok (x, rest)) e) [
        | inl t ↦ absurd (cc t.1)
        | inr f ↦
            let same = pair_same (take size bytes) x (drop size bytes) rest f.1 in
            let enough : size ≤ length bytes = ltb-false _ _ f.0 in (
              take size bytes,
              sym (take-append-drop size bytes) ∙ ap (λ (l : List ℕ). take size bytes ++ l) same.1,
              (
                same.0,
                ap (λ (l : List ℕ). length l) (sym same.0) ∙ length-take-le size bytes enough,
              ),
            )
      ]

  -- a front of this length is taken
  taken_again : (end : ℕ) (front : List ℕ) (x : List ℕ) (rest : List ℕ) → AreBytes size front x
      → taken_at short size end (front ++ rest) ≡ Ok (x, rest)
  taken_again end front x rest is =
      let so_long : length front ≡ size = ap (λ (l : List ℕ). length l) is.0 ∙ is.1 in
      let enough : size ≤ length (front ++ rest) = omega (arith, length-append front rest) in
      ap (λ (b : Bool).
      cond b (Err (short end)) (Ok (take size (front ++ rest), drop size (front ++ rest))))
      (le-ltb _ _ enough)
      ∙ ap (λ (l : List ℕ). Ok (l, drop size (front ++ rest)))
      (take_at front rest size so_long ∙ is.0)
      ∙ ap (λ (l : List ℕ). Ok (x, l)) (drop_at front rest size so_long)

  -- where none is taken, too few are left
  taken_stops : (end : ℕ) (bytes : List ℕ) (found : E) → taken_at short size end bytes ≡ Err found
      → LacksBytes short size end bytes found
  taken_stops end bytes found e =
      elim (chosen (ltb (length bytes) size) (Err (short end))
      (Ok (take size bytes, drop size bytes)) (Err found) e) [
        | inl t ↦ (ltb-true _ _ t.0, cc t.1)
        | inr f ↦ absurd (cc f.1)
      ]

  -- so many bytes
  pub reads_taken : Reads (taken_at short size) (AreBytes size) (LacksBytes short size)
  reads_taken = record {
    takes = taken_takes;
    again = taken_again;
    stops = taken_stops;
    fails =
        λ end bytes found lacks. ap (λ (b : Bool).
        cond b (Err (short end)) (Ok (take size bytes, drop size bytes))) (lt-ltb _ _ lacks.0)
        ∙ ap Err (sym lacks.1);
  }

-- ---- numbers

module _ {E : Type 0} (short too_long : ℕ → E) where
  -- where a number is read, it ends at some place
  number_ok : (end : ℕ) (bytes : List ℕ) (r : Result (ℕ × ℕ) ReadFault) (x : ℕ) (rest : List ℕ)
      → numbered short too_long end bytes r ≡ Ok (x, rest)
      → (next : ℕ) × (r ≡ Ok (x, next)) × (rest ≡ drop next bytes)
  number_ok end bytes (Ok read) x rest e =
      let same = pair_same read.0 x (drop read.1 bytes) rest e in
      (read.1, ap (λ (n : ℕ). Ok (n, read.1)) same.0, sym same.1)
  number_ok end bytes (Err (number.Short at)) x rest e = absurd cc
  number_ok end bytes (Err (number.TooLong at)) x rest e = absurd cc

  -- what is read is a number
  number_takes : (end : ℕ) (bytes : List ℕ) (x : ℕ) (rest : List ℕ)
      → number_at short too_long end bytes ≡ Ok (x, rest)
      → (front : List ℕ) × (bytes ≡ front ++ rest) × IsMb front x
  unfolding number_at
  number_takes end bytes x rest e =
      let a = number_ok end bytes (mb_at bytes 0) x rest e in
      let reads = mb_takes bytes 0 x a.0 a.1 in
      let next_is : a.0 ≡ length reads.bytes = reads.next_is ∙ omega arith in
      let rest_is : rest ≡ reads.rest =
      a.2 ∙ ap (λ (n : ℕ). drop n bytes) next_is ∙ ap (drop (length reads.bytes)) reads.split
      ∙ drop_at reads.bytes reads.rest (length reads.bytes) refl in (
        reads.bytes,
        reads.split ∙ ap (λ (l : List ℕ). reads.bytes ++ l) (sym rest_is),
        reads.number_is,
      )

  -- a number is read
  number_again : (end : ℕ) (front : List ℕ) (x : ℕ) (rest : List ℕ) → IsMb front x
      → number_at short too_long end (front ++ rest) ≡ Ok (x, rest)
  unfolding number_at
  number_again end front x rest is =
      let reads : ReadsMb (front ++ rest) 0 x (length front) =
      record { bytes = front; rest = rest; split = refl; number_is = is; next_is = omega arith } in
      ap (numbered short too_long end (front ++ rest))
      (mb_again (front ++ rest) 0 x (length front) reads)
      ∙ ap (λ (l : List ℕ). Ok (x, l)) (drop_at front rest (length front) refl)

  -- why a number is refused
  number_err : (end : ℕ) (bytes : List ℕ) (r : Result (ℕ × ℕ) ReadFault) (found : E)
      → mb_at bytes 0 ≡ r → numbered short too_long end bytes r ≡ Err found
      → RefusesNumber short too_long end bytes found
  number_err end bytes (Ok read) found is e = absurd cc
  number_err end bytes (Err (number.Short at)) found is e =
      inl ((mb_stops_short bytes 0 at is).0, cc)
  number_err end bytes (Err (number.TooLong at)) found is e =
      inr ((mb_stops_over bytes 0 at is).0, cc)

  -- where none is read, it is refused
  number_stops : (end : ℕ) (bytes : List ℕ) (found : E)
      → number_at short too_long end bytes ≡ Err found → RefusesNumber short too_long end bytes
      found
  unfolding number_at
  number_stops end bytes found e = number_err end bytes (mb_at bytes 0) found refl e

  -- where it is refused, none is read
  number_fails : (end : ℕ) (bytes : List ℕ) (found : E)
      → RefusesNumber short too_long end bytes found → number_at short too_long end bytes
      ≡ Err found
  unfolding number_at
  number_fails end bytes found (inl inside) =
      ap (numbered short too_long end bytes) (mb_fails_short bytes 0 inside.0)
      ∙ ap Err (sym inside.1)
  number_fails end bytes found (inr long) =
      ap (numbered short too_long end bytes) (mb_fails_over bytes 0 long.0) ∙ ap Err (sym long.1)

  -- one number
  pub reads_number : Reads (number_at short too_long) IsMb (RefusesNumber short too_long)
  reads_number = record {
    takes = number_takes;
    again = number_again;
    stops = number_stops;
    fails = number_fails;
  }
