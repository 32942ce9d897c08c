-- What is written for a thing is that thing, in place of the bytes from which it was read: such
-- writings are put together.
use Rattle.std.proofs.Common.{◌≡◌, ℕ, zero, suc, ◌+◌, ◌/◌, ◌%◌, ◌^◌, ◌<◌, ◌≤◌, Bool, true, false}
use Rattle.std.proofs.Common.{cond, eqb, List, [], ◌∷◌, ◌++◌, length, get_or, refl, ap, subst}
use Rattle.std.proofs.Common.{arith}
use Rattle.std.specs.Prelude.{⊤}
use Rattle.std.specs.List.{flat_map, AllByRecursion}
use Rattle.std.proofs.lemmas.List.{length-append}
use Rattle.wap_base.specs.Numbers.{IsMb, carried, mb_spelling}
use Rattle.wap_base.proofs.NumberSpelling.{IsShortest-mb_spelling}
use Rattle.wap_base.specs.formats.Sequences.{InTurn, After, IsRow}
use Rattle.wap_base.proofs.formats.Parts.{both}
use Rattle.wap_unit.specs.Sequences.{IsSized, IsCounted}
use Rattle.wap_unit.specs.Spelling.{sized, counted}

-- numbers below 256
abbrev pub AreBytes : List ℕ → Type 0
AreBytes bytes = AllByRecursion (λ byte. byte < 256) bytes

-- a prefix of bytes is bytes
bytes_front : (front back : List ℕ) → AreBytes (front ++ back) → AreBytes front
bytes_front [] back are = tt
bytes_front (byte ∷ front) back are = (are.0, bytes_front front back are.1)

-- what follows a prefix is bytes
pub bytes_back : (front back : List ℕ) → AreBytes (front ++ back) → AreBytes back
bytes_back [] back are = are
bytes_back (byte ∷ front) back are = bytes_back front back are.1

-- bytes after bytes are bytes
pub bytes_both : (front back : List ℕ) → AreBytes front → AreBytes back → AreBytes (front ++ back)
bytes_both [] back are more = more
bytes_both (byte ∷ front) back are more = (are.0, bytes_both front back are.1 more)

-- each byte is below 256
pub byte_below : (bytes : List ℕ) → AreBytes bytes → (i : ℕ) → get_or bytes i 0 < 256
byte_below [] are i = omega arith
byte_below (byte ∷ bytes) are zero = are.0
byte_below (byte ∷ bytes) are (suc i) = byte_below bytes are.1 i

-- these bytes, written in place of others
pub record Written (others bytes : List ℕ) : Type 0 where
  pub are : AreBytes bytes
  pub short : length bytes ≤ length others

-- what is written for a thing is that thing, in place of the bytes from which it was read
pub record Writes {A : Type 0} (Is : List ℕ → A → Type 0) (spell : A → List ℕ)
    (Fits : A → Type 0) : Type 0 where
  pub is : (bytes : List ℕ) (x : A) → AreBytes bytes → Is bytes x → Is (spell x) x
  pub written : (bytes : List ℕ) (x : A) → AreBytes bytes → Is bytes x → Written bytes (spell x)
  pub fits : (bytes : List ℕ) (x : A) → AreBytes bytes → Is bytes x → Fits x

-- two parts are written one after the other
written_both : (bytes front back a b : List ℕ) → bytes ≡ front ++ back → Written front a
    → Written back b → Written bytes (a ++ b)
written_both bytes front back a b split first second =
    let one = first.short in
    let two = second.short in
    let all : length bytes ≡ length (front ++ back) = ap (λ (l : List ℕ). length l) split in
    record {
      are = bytes_both a b first.are second.are;
      short = omega (arith, length-append a b, length-append front back);
    }

-- bytes are written as they were
pub written_same : (bytes : List ℕ) → AreBytes bytes → Written bytes bytes
written_same bytes are = record { are = are; short = omega arith }

-- a byte is written, and what follows it
pub written_behind : (byte : ℕ) (others bytes rest : List ℕ) → others ≡ byte ∷ rest
    → AreBytes others
    → Written rest bytes → Written others (byte ∷ bytes)
written_behind byte others bytes rest spelled are behind =
    let one = behind.short in
    let all : length others ≡ suc (length rest) = ap (λ (l : List ℕ). length l) spelled in
    record { are = ((subst AreBytes spelled are).0, behind.are); short = omega arith }

-- a part of bytes is bytes
front_of : (bytes front back : List ℕ) → bytes ≡ front ++ back → AreBytes bytes → AreBytes front
front_of bytes front back split are = bytes_front front back (subst AreBytes split are)

-- so is what follows the part
back_of : (bytes front back : List ℕ) → bytes ≡ front ++ back → AreBytes bytes → AreBytes back
back_of bytes front back split are = bytes_back front back (subst AreBytes split are)

-- ---- numbers

-- the groups of a number are bytes
pub carried_bytes : (allowed number : ℕ) → AreBytes (carried allowed number)
carried_bytes zero number = tt
carried_bytes (suc allowed) number =
    by_test (eqb number 0) (carried allowed (number / 128)) (128 + number % 128)
    (carried_bytes allowed (number / 128)) (omega arith)
  where
    by_test : (b : Bool) (front : List ℕ) (last : ℕ) → AreBytes front → last < 256
        → AreBytes (cond b [] (front ++ last ∷ []))
    by_test true front last are below = tt
    by_test false front last are below = bytes_both front (last ∷ []) are (below, tt)

-- one number
pub writes_number : Writes IsMb mb_spelling (λ number. number < 2 ^ 32)
writes_number = record {
  is = λ bytes number are is. (IsShortest-mb_spelling number is.fits).spells;
  written = λ bytes number are is. record {
    are =
        bytes_both (carried 4 (number / 128)) (number % 128 ∷ []) (carried_bytes 4 (number / 128))
        (omega arith, tt);
    short = (IsShortest-mb_spelling number is.fits).shortest bytes is;
  };
  fits = λ bytes number are is. is.fits;
}

-- ---- rows

-- so many things
pub writes_row : {A : Type 0} {Is : List ℕ → A → Type 0} {spell : A → List ℕ} {Fits : A → Type 0}
    → Writes Is spell Fits → Writes (IsRow Is) (flat_map spell) (AllByRecursion Fits)
writes_row {A} {Is} {spell} {Fits} writes = record { is = is; written = written; fits = fits }
  where
    is : (bytes : List ℕ) (xs : List A) → AreBytes bytes → IsRow Is bytes xs
        → IsRow Is (flat_map spell xs) xs
    is bytes [] are row = refl
    is bytes (x ∷ xs) are row = record {
      front = spell x;
      back = flat_map spell xs;
      split = refl;
      first = writes.is row.front x (front_of bytes row.front row.back row.split are) row.first;
      second = is row.back xs (back_of bytes row.front row.back row.split are) row.second;
    }

    written : (bytes : List ℕ) (xs : List A) → AreBytes bytes → IsRow Is bytes xs
        → Written bytes (flat_map spell xs)
    written bytes [] are row = record { are = tt; short = omega arith }
    written bytes (x ∷ xs) are row =
        written_both bytes row.front row.back (spell x) (flat_map spell xs) row.split
        (writes.written row.front x (front_of bytes row.front row.back row.split are) row.first)
        (written row.back xs (back_of bytes row.front row.back row.split are) row.second)

    fits : (bytes : List ℕ) (xs : List A) → AreBytes bytes → IsRow Is bytes xs
        → AllByRecursion Fits xs
    fits bytes [] are row = tt
    fits bytes (x ∷ xs) are row = (
      writes.fits row.front x (front_of bytes row.front row.back row.split are) row.first,
      fits row.back xs (back_of bytes row.front row.back row.split are) row.second,
    )

-- ---- parts

module _ {A B : Type 0} {Is : List ℕ → A → Type 0} {spell : A → List ℕ} {Fits : A → Type 0}
    {Suits : B → Type 0} where
  -- two things, one after the other
  pub writes_both : {Are : List ℕ → B → Type 0} {respell : B → List ℕ} → Writes Is spell Fits
      → Writes Are respell Suits → Writes (λ bytes (z : A × B).
      InTurn (λ front. Is front z.0) (λ back. Are back z.1) bytes)
      (λ z. spell z.0 ++ respell z.1) (λ z. Fits z.0 × Suits z.1)
  writes_both {Are} {respell} first second = record {
    is = λ bytes z are is.
        both (spell z.0) (respell z.1) (first.is is.front z.0
        (front_of bytes is.front is.back is.split are) is.first) (second.is is.back z.1
        (back_of bytes is.front is.back is.split are) is.second);
    written = λ bytes z are is.
        written_both bytes is.front is.back (spell z.0) (respell z.1) is.split
        (first.written is.front z.0 (front_of bytes is.front is.back is.split are) is.first)
        (second.written is.back z.1 (back_of bytes is.front is.back is.split are) is.second);
    fits = λ bytes z are is. (
      first.fits is.front z.0 (front_of bytes is.front is.back is.split are) is.first,
      second.fits is.back z.1 (back_of bytes is.front is.back is.split are) is.second,
    );
  }

  -- what is written for a thing, written for another of which it is known
  pub writes_of : Writes Is spell Fits → (of : B → A) → ((x : B) → Fits (of x) → Suits x)
      → Writes (λ bytes x. Is bytes (of x)) (λ x. spell (of x)) Suits
  writes_of writes of suits = record {
    is = λ bytes x. writes.is bytes (of x);
    written = λ bytes x. writes.written bytes (of x);
    fits = λ bytes x are is. suits x (writes.fits bytes (of x) are is);
  }

-- this byte, and what follows it
pub writes_after : {A : Type 0} {Is : List ℕ → A → Type 0} {spell : A → List ℕ}
    {Fits : A → Type 0} → (byte : A → ℕ) → Writes Is spell Fits
    → Writes (λ bytes x. After (byte x) (λ rest. Is rest x) bytes) (λ x. byte x ∷ spell x) Fits
writes_after {spell} byte writes = record {
  is = λ bytes x are is.
      (spell x, refl, writes.is is.0 x (subst AreBytes is.1 are).1 is.2);
  written = λ bytes x are is.
      written_behind (byte x) bytes (spell x) is.0 is.1 are
      (writes.written is.0 x (subst AreBytes is.1 are).1 is.2);
  fits = λ bytes x are is. writes.fits is.0 x (subst AreBytes is.1 are).1 is.2;
}

-- bytes as they are
writes_content : Writes (λ bytes content. bytes ≡ content) (λ content. content) (λ content. ⊤)
writes_content = record {
  is = λ bytes content are is. refl;
  written = λ bytes content are is. subst (Written bytes) is (written_same bytes are);
  fits = λ bytes content are is. tt;
}

-- bytes after their number
pub writes_sized : Writes IsSized sized (λ content. length content < 2 ^ 32)
writes_sized =
    writes_of (writes_both writes_number writes_content) (λ content. (length content, content))
    (λ content fits. fits.0)

-- things after their number
pub writes_counted : {A : Type 0} {Is : List ℕ → A → Type 0} {spell : A → List ℕ}
    {Fits : A → Type 0} → Writes Is spell Fits
    → Writes (IsCounted Is) (counted spell) (λ xs. length xs < 2 ^ 32)
writes_counted writes =
    writes_of (writes_both writes_number (writes_row writes)) (λ xs. (length xs, xs))
    (λ xs fits. fits.0)
