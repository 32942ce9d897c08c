-- So many things are read one after the other, each after those before it.
use Rattle.std.proofs.Common.{◌≡◌, ℕ, zero, suc, ◌<◌, List, [], ◌∷◌, ◌++◌, length, refl, sym, ap}
use Rattle.std.proofs.Common.{subst, ◌∙◌, append_assoc, inl, inr, arith}
use Rattle.std.proofs.lemmas.List.{append-nil}
use Rattle.wap_base.specs.formats.Sequences.{Then, IsRow, IsRowAfter, AreMany}
use Rattle.wap_base.specs.formats.Refusal.{Refusal, RefusesInTurn, RefusesRowAfter, RefusesRow}
use Rattle.wap_base.specs.formats.ByteReading.{Reader, many, row_at}
use Rattle.wap_base.proofs.formats.Readers.{Reads, reads_in_turn, reads_given, reads_so, reads_as}
use Rattle.wap_base.proofs.formats.Readers.{joined}

module _ {E A : Type 0} {read : List A → Reader E A} {Is : List A → List ℕ → A → Type 0}
    {Refuses : List A → Refusal E}
    (reads : (before : List A) → Reads (read before) (Is before) (Refuses before)) where
  -- so many things after those before them, which all stand in the list
  abbrev AreAll : ℕ → List A → List ℕ → List A → Type 0
  AreAll count before bytes all =
      (xs : List A) × (all ≡ before ++ xs) × (IsRowAfter Is before bytes xs × (length xs ≡ count))

  -- a thing, and the others after it
  all_forth : (count : ℕ) (before : List A) (bytes : List ℕ) (all : List A)
      → Then (Is before) (λ x l. AreAll count (before ++ x ∷ []) l all) bytes
      → AreAll (suc count) before bytes all
  all_forth count before bytes all is =
      let parts = is.1 in
      let others = parts.second in (
        is.0 ∷ others.0,
        others.1 ∙ append_assoc before (is.0 ∷ []) others.0,
        (
          record {
            front = parts.front;
            back = parts.back;
            split = parts.split;
            first = parts.first;
            second = others.2.0;
          },
          ap suc others.2.1,
        ),
      )

  -- some things begin with one
  all_back : (count : ℕ) (before : List A) (bytes : List ℕ) (all xs : List A) → all ≡ before ++ xs
      → IsRowAfter Is before bytes xs → length xs ≡ suc count
      → Then (Is before) (λ x l. AreAll count (before ++ x ∷ []) l all) bytes
  all_back count before bytes all [] same row so_many = absurd (omega arith)
  all_back count before bytes all (x ∷ xs) same row so_many = (
    x,
    record {
      front = row.front;
      back = row.back;
      split = row.split;
      first = row.first;
      second = (xs, same ∙ sym (append_assoc before (x ∷ []) xs), (row.second, omega arith));
    },
  )

  -- the first thing is refused, or one of the others
  row_out : (count : ℕ) (before : List A) (end : ℕ) (left : List ℕ) (found : E)
      → RefusesInTurn (Refuses before) (Is before)
      (λ x. RefusesRowAfter count Is Refuses (before ++ x ∷ [])) end left found
      → RefusesRowAfter (suc count) Is Refuses before end left found
  row_out count before end left found (inl first) = record {
    whole = [];
    front = [];
    rest = left;
    split = refl;
    row = refl;
    fewer = omega arith;
    refused =
        subst (λ (l : List A). Refuses l end left found) (sym (append-nil before)) first;
  }
  row_out count before end left found (inr next) =
      let others = next.refused in
      let fewer = others.fewer in
      record {
        whole = next.value ∷ others.whole;
        front = next.front ++ others.front;
        rest = others.rest;
        split = joined left next.front next.rest others.front others.rest next.split others.split;
        row = record {
          front = next.front;
          back = others.front;
          split = refl;
          first = next.whole;
          second = others.row;
        };
        fewer = omega arith;
        refused =
            subst (λ (l : List A). Refuses l end others.rest found)
            (append_assoc before (next.value ∷ []) others.whole) others.refused;
      }

  -- where one of some things is refused, the first is or one of the others
  row_home : (count : ℕ) (before : List A) (end : ℕ) (left : List ℕ) (found : E)
      (whole : List A) (front rest : List ℕ) → left ≡ front ++ rest
      → IsRowAfter Is before front whole → length whole < suc count
      → Refuses (before ++ whole) end rest found
      → RefusesInTurn (Refuses before) (Is before)
      (λ x. RefusesRowAfter count Is Refuses (before ++ x ∷ [])) end left found
  row_home count before end left found [] front rest split row fewer refused =
      inl (subst (λ (l : List A). Refuses l end left found) (append-nil before)
      (subst (λ (l : List ℕ). Refuses (before ++ []) end l found)
      (sym (split ∙ ap (λ (l : List ℕ). l ++ rest) row)) refused))
  row_home count before end left found (x ∷ xs) front rest split row fewer refused =
      inr (record {
        value = x;
        front = row.front;
        rest = row.back ++ rest;
        split =
            split ∙ ap (λ (l : List ℕ). l ++ rest) row.split
            ∙ append_assoc row.front row.back rest;
        whole = row.first;
        refused = record {
          whole = xs;
          front = row.back;
          rest = rest;
          split = refl;
          row = row.second;
          fewer = omega arith;
          refused =
              subst (λ (l : List A). Refuses l end rest found)
              (sym (append_assoc before (x ∷ []) xs)) refused;
        };
      })

  -- so many things after these
  reads_all : (count : ℕ) (before : List A) → Reads (many read count before) (AreAll count before)
      (RefusesRowAfter count Is Refuses before)
  reads_all zero before =
      reads_so (reads_given before)
      (λ bytes all is. ([], is.1 ∙ sym (append-nil before), (is.0, refl)))
      (λ bytes all is. none bytes all is.0 is.1 is.2.0 is.2.1) (λ end left found is. absurd is)
      (λ end left found is. let fewer = is.fewer in absurd (omega arith))
    where
      none : (bytes : List ℕ) (all xs : List A) → all ≡ before ++ xs
          → IsRowAfter Is before bytes xs → length xs ≡ 0 → (bytes ≡ []) × (all ≡ before)
      none bytes all [] same row so_many = (row, same ∙ append-nil before)
      none bytes all (x ∷ xs) same row so_many = absurd (omega arith)
  reads_all (suc count) before =
      reads_so (reads_in_turn (reads before) (λ x. reads_all count (before ++ x ∷ [])))
      (all_forth count before)
      (λ bytes all is. all_back count before bytes all is.0 is.1 is.2.0 is.2.1)
      (row_out count before)
      (λ end left found is. row_home count before end left found is.whole is.front is.rest is.split
      is.row is.fewer is.refused)

  -- so many things
  pub reads_many : (count : ℕ) → Reads (many read count []) (AreMany Is count)
      (RefusesRowAfter count Is Refuses [])
  reads_many count =
      reads_as (reads_all count [])
      (λ bytes all is. subst (AreMany Is count bytes) (sym is.1) is.2)
      (λ bytes all is. (all, refl, is))

-- ---- where no thing minds those before it

module _ {A : Type 0} (Is : List ℕ → A → Type 0) where
  -- such things stand after any
  row_after : (before : List A) (bytes : List ℕ) (xs : List A) → IsRow Is bytes xs
      → IsRowAfter (λ before. Is) before bytes xs
  row_after before bytes [] row = row
  row_after before bytes (x ∷ xs) row = record {
    front = row.front;
    back = row.back;
    split = row.split;
    first = row.first;
    second = row_after (before ++ x ∷ []) row.back xs row.second;
  }

  -- and by themselves
  row_alone : (before : List A) (bytes : List ℕ) (xs : List A)
      → IsRowAfter (λ before. Is) before bytes xs → IsRow Is bytes xs
  row_alone before bytes [] row = row
  row_alone before bytes (x ∷ xs) row = record {
    front = row.front;
    back = row.back;
    split = row.split;
    first = row.first;
    second = row_alone (before ++ x ∷ []) row.back xs row.second;
  }

-- so many such things
pub reads_row : {E A : Type 0} {read : Reader E A} {Is : List ℕ → A → Type 0} {Refuses : Refusal E}
    → Reads read Is Refuses → (count : ℕ) → Reads (row_at read count)
    (λ bytes xs. IsRow Is bytes xs × (length xs ≡ count)) (RefusesRow count Is Refuses)
reads_row {Is} reads count =
    reads_as (reads_many (λ before. reads) count)
    (λ bytes xs is. (row_alone Is [] bytes xs is.0, is.1))
    (λ bytes xs is. (row_after Is [] bytes xs is.0, is.1))
