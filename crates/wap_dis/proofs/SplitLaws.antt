-- Where a listing of code stops splitting it into instructions.
use Rattle.std.proofs.Common.{◌≡◌, ℕ, zero, suc, ◌+◌, ◌-◌, ◌<◌, ◌≤◌, Bool, cond, ltb}
use Rattle.std.proofs.Common.{List, [], ◌∷◌, ◌++◌, length, drop, Option, Some, None, Ok, Err}
use Rattle.std.proofs.Common.{refl, sym, ap, subst, ◌∙◌, append_assoc, ◌⊎◌, inl, inr, arith}
use Rattle.std.specs.Prelude.{slice_index}
use Rattle.std.specs.List.{flat_map, enumerate_from}
use Rattle.std.proofs.lemmas.Bool.{cases_Bool, cases_lt, ltb-false}
use Rattle.std.proofs.lemmas.List.{nil_from_length, length-drop}
use Rattle.wap_base.proofs.Choices.{some_same}
use Rattle.wap_unit.specs.declared.row.Row.{Row}
use Rattle.wap_unit.specs.declared.instr.Instr.{Instr}
use Rattle.wap_unit.specs.declared.instr.InstrFault.TheVariants.{Operand}
use Rattle.wap_unit.specs.Instructions.{size, row_of, read}
use Rattle.wap_dis.specs.Listing.{byte_line, byte_lines, whole_by, read_whole, whole_at, code_from}
use Rattle.wap_dis.specs.Splitting.{Item, item_line, Splits, IsListedSplit}
use Rattle.wap_dis.proofs.Lists.{code_step, code_end}

module _ (code : List ℕ) where
  -- an instruction ends after its place, and within the code
  abbrev Ends : ℕ → Row × Instr → Type 0
  Ends at found = (at < found.1.next) × (found.1.next ≤ length code)

  -- what is read by a row of the table ends so
  by_row : (at : ℕ) (row : Option Row) (found : Row × Instr) → at < length code
      → whole_by code at row ≡ Some found → Ends at found
  by_row at None found within is = absurd (cc is)
  by_row at (Some row) found within is = elim (cases_Bool (ltb (length code - at) (size row))) [
    | inl short ↦
        absurd (cc (sym (ap (λ (b : Bool).
        read_whole row (cond b (Err Operand) (Ok (read row code at)))) short) ∙ is))
    | inr long ↦
        let enough : size row ≤ length code - at = ltb-false _ _ long in
        let same : (row, read row code at) ≡ found =
        some_same (row, read row code at) found (sym (ap (λ (b : Bool).
        read_whole row (cond b (Err Operand) (Ok (read row code at)))) long) ∙ is) in
        subst (Ends at) same (omega arith, omega arith)
  ]

  -- so does what is listed as an instruction
  whole_ends : (at : ℕ) (found : Row × Instr) → at < length code → whole_at code at ≡ Some found
      → Ends at found
  unfolding whole_at
  whole_ends at found within is = by_row at (row_of (slice_index code at)) found within is

  -- no instruction begins here
  abbrev Stops : ℕ → Type 0
  Stops to = (to ≡ length code) ⊎ (whole_at code to ≡ None)

  -- what is listed from a place on
  record Listed (from : ℕ) (text : List ℕ) : Type 0 where
    items : List Item
    end : ℕ
    split : Splits code from items end
    within : end ≤ length code
    stops : Stops end
    lines : text ≡ flat_map item_line items ++ byte_lines code end

  -- at the end of the code nothing is listed
  no_lines : (at : ℕ) → at ≡ length code → byte_lines code at ≡ []
  no_lines at past =
      ap (λ (l : List ℕ). flat_map byte_line (enumerate_from at l))
      (nil_from_length (drop at code) (omega (arith, length-drop at code)))

  -- there the listing of code ends
  listed_end : (from left : ℕ) → from ≡ length code → Listed from (code_from left code from)
  listed_end from left past = record {
    items = [];
    end = from;
    split = refl;
    within = omega arith;
    stops = inl past;
    lines = code_end left code from (omega arith) ∙ sym (no_lines from past);
  }

  -- a place within the code, from which the rest is listed in so many turns
  module _ (left from : ℕ) (within : from < length code)
      (more : (next : ℕ) → from < next → next ≤ length code
      → Listed next (code_from left code next)) where
    listed_by : (found : Option (Row × Instr)) → whole_at code from ≡ found
        → Listed from (code_from (suc left) code from)
    listed_by None is = record {
      items = [];
      end = from;
      split = refl;
      within = omega arith;
      stops = inr is;
      lines = code_step left code from None within is;
    }
    listed_by (Some found) is =
        let ends = whole_ends from found within is in
        let rest = more found.1.next ends.0 ends.1 in
        let item : Item = (from, found.0, found.1) in
        record {
          items = item ∷ rest.items;
          end = rest.end;
          split = (refl, within, is, rest.split);
          within = rest.within;
          stops = rest.stops;
          lines =
              code_step left code from (Some found) within is
              ∙ ap (λ (l : List ℕ). item_line item ++ l) rest.lines
              ∙ sym (append_assoc (item_line item) (flat_map item_line rest.items)
              (byte_lines code rest.end));
        }

  -- so many turns are enough
  listed : (left from : ℕ) → from ≤ length code → length code ≤ left + from
      → Listed from (code_from left code from)
  listed zero from within enough = listed_end from zero (omega arith)
  listed (suc left) from within enough = elim (cases_lt from (length code)) [
    | inl inside ↦
        listed_by left from inside
        (λ next onward ends. listed left next ends (omega arith)) (whole_at code from) refl
    | inr past ↦ listed_end from (suc left) (omega arith)
  ]

  -- what is split ends no earlier than it begins
  split_onward : (from : ℕ) (items : List Item) (to : ℕ) → Splits code from items to → from ≤ to
  split_onward from [] to split = omega (arith, split)
  split_onward from (item ∷ items) to split =
      let ends = whole_ends from (item.1, item.2) split.1 split.2 in
      let first = ends.0 in
      let rest = split_onward item.2.next items to split.3 in
      omega arith

  -- where no instruction begins, no other split has gone further
  split_longest : (from : ℕ) (items others : List Item) (end to : ℕ) → Splits code from items end
      → Stops end → Splits code from others to → to ≤ end
  split_longest from [] [] end to split stops other = omega (arith, split, other)
  split_longest from [] (item ∷ others) end to split stops other = elim stops [
    | inl past ↦ let inside = other.1 in absurd (omega (arith, split))
    | inr none ↦ absurd (cc (sym none ∙ ap (whole_at code) (sym split) ∙ other.2))
  ]
  split_longest from (item ∷ items) [] end to split stops other =
      let onward = split_onward from (item ∷ items) end split in
      omega (arith, other)
  split_longest from (item ∷ items) (item' ∷ others) end to split stops other =
      let same : (item'.1, item'.2) ≡ (item.1, item.2) =
      some_same (item'.1, item'.2) (item.1, item.2) (sym other.2 ∙ split.2) in
      let next : item'.2.next ≡ item.2.next =
      ap (λ (found : Row × Instr). found.1.next) same in
      split_longest item.2.next items others end to split.3 stops
      (subst (λ (n : ℕ). Splits code n others to) next other.3)

  -- the law
  pub listed_split : IsListedSplit code
  listed_split =
      let all = listed (length code) 0 (omega arith) (omega arith) in
      record {
        items = all.items;
        end = all.end;
        split = all.split;
        within = all.within;
        longest =
            λ others to other.
            split_longest 0 all.items others all.end to all.split all.stops other;
        lines = all.lines;
      }
