-- Items one after the other.
use Rattle.std.proofs.Common.{◌≡◌, ℕ, zero, suc, ◌<◌, ◌≤◌, List, [], ◌∷◌, ◌++◌}
use Rattle.std.proofs.Common.{length, Option, Some, None, Ok, Err, refl, sym, ap}
use Rattle.std.proofs.Common.{subst, ◌∙◌, append_assoc, inl, inr, arith}
use Rattle.std.proofs.lemmas.List.{length-append}
use Rattle.wap_base.specs.Outcome.{◌>>=◌}
use Rattle.wap_base.proofs.Choices.{bind_ok, bind_err}
use Rattle.wap_base.proofs.formats.Readers.{pair_same, joined}
use Rattle.wap_tokens.specs.markup.Spellings.{Many, none, more, ManyOf, Ended}
use Rattle.wap_wbxml.specs.declared.fault.DocFault.{DocFault}
use Rattle.wap_wbxml.specs.Refusals.{Refusal, RefusedAmong, here, later, Anything}
use Rattle.wap_wbxml.specs.reading.ByteReading.{Reading, Next, told, chained, run_at, all_by}
use Rattle.wap_wbxml.proofs.Readings.{Reads, no_fault}

-- the laws of a reading of the next item, or of none at a stop
pub record Items {A S : Type 0} (next : Next A S) (spent : S → List ℕ → Reading (List A × S))
    (Is : S → List ℕ → A × S → Type 0)
    (Ends : A × S → List ℕ → Type 0) (Stop : S → List ℕ → List ℕ → Type 0)
    (Refused : S → Refusal) : Type 0 where
  pub takes : (s : S) (bytes : List ℕ) (x : A) (t : S) (rest : List ℕ)
      → next s bytes ≡ Ok ((Some x, t), rest)
      → (front : List ℕ) × (bytes ≡ front ++ rest) × Is s front (x, t) × Ends (x, t) rest
  pub again : (s : S) (front : List ℕ) (x : A) (t : S) (rest : List ℕ) → Is s front (x, t)
      → Ends (x, t) rest
      → next s (front ++ rest) ≡ Ok ((Some x, t), rest)
  pub ends : (s : S) (bytes : List ℕ) (t : S) (rest : List ℕ) → next s bytes ≡ Ok ((None, t), rest)
      → (s ≡ t) × Stop s bytes rest
  pub halts : (s : S) (bytes rest : List ℕ) → Stop s bytes rest
      → next s bytes ≡ Ok ((None, s), rest)
  pub stops : (s : S) (bytes : List ℕ) (fault : DocFault) → next s bytes ≡ Err fault
      → Refused s bytes fault
  pub fails : (s : S) (bytes : List ℕ) (fault : DocFault) → Refused s bytes fault
      → next s bytes ≡ Err fault
  -- an item has bytes; no bytes are as spent says; and an item ends where another one begins, or a
  -- stop is
  pub some : (s : S) (front : List ℕ) (x : A × S) → Is s front x → 0 < length front
  pub at_nothing : (s : S) → spent s [] ≡ (next s [] >>= chained (run_at next spent 0))
  pub ends_before : (y : A) (s : S) (front : List ℕ) (x : A × S) (rest : List ℕ) → Is s front x
      → Ends (y, s) (front ++ rest)
  pub ends_at_stop : (y : A) (s : S) (bytes rest : List ℕ) → Stop s bytes rest → Ends (y, s) bytes

-- whole items, and a stop after them
pub record Stopped {A S : Type 0} (Is : S → List ℕ → A × S → Type 0)
    (Stop : S → List ℕ → List ℕ → Type 0) (s : S)
    (bytes : List ℕ) (items : List A) (t : S) (rest : List ℕ) : Type 0 where
  pub front : List ℕ
  pub tail : List ℕ
  pub split : bytes ≡ front ++ tail
  pub are : Many Is s front items t
  pub stop : Stop t tail rest

module _ {A S : Type 0} {next : Next A S} {spent : S → List ℕ → Reading (List A × S)}
    {Is : S → List ℕ → A × S → Type 0}
    {Ends : A × S → List ℕ → Type 0} {Stop : S → List ℕ → List ℕ → Type 0} {Refused : S → Refusal}
    (items : Items next spent Is Ends Stop Refused) where
  abbrev run : ℕ → S → List ℕ → Reading (List A × S)
  run = run_at next spent

  shorter : (s : S) (front : List ℕ) (x : A × S) (bytes rest : List ℕ) → Is s front x
      → bytes ≡ front ++ rest
      → length rest < length bytes
  shorter s front x bytes rest is split =
      let some = items.some s front x is in
      let len = ap length split ∙ length-append front rest in
      omega arith

  nothing : (bytes : List ℕ) → length bytes ≤ 0 → bytes ≡ []
  nothing [] few = refl
  nothing (byte ∷ bytes) few = absurd (omega arith)

  -- one more turn than there are bytes changes nothing
  one_turn : (s : S) (bytes : List ℕ) → length bytes ≤ 0 → run 0 s bytes ≡ run 1 s bytes
  one_turn s bytes few =
      ap (run 0 s) (nothing bytes few) ∙ items.at_nothing s ∙ ap (run 1 s) (sym (nothing bytes few))

  -- ---- what was read

  step_takes : (n : ℕ) (s : S) (bytes : List ℕ)
      → ((u : S) (left : List ℕ) (xs : List A) (t : S) (rest : List ℕ) → length left < length bytes
      → run n u left ≡ Ok ((xs, t), rest) → Stopped Is Stop u left xs t rest)
      → (o : Option A) (between : S) (behind : List ℕ) → next s bytes ≡ Ok ((o, between), behind)
      → (xs : List A) (t : S) (rest : List ℕ)
      → chained (run n) ((o, between), behind) ≡ Ok ((xs, t), rest)
      → Stopped Is Stop s bytes xs t rest
  step_takes n s bytes others None between behind e xs t rest f =
      let ended = items.ends s bytes between behind e in
      let same = pair_same ([], between) (xs, t) behind rest f in
      let stopped : Stopped Is Stop s bytes [] s behind =
      record { front = []; tail = bytes; split = refl; are = none s; stop = ended.1 } in
      subst (λ (r : List ℕ). Stopped Is Stop s bytes xs t r) same.1
      (subst (λ (p : List A × S). Stopped Is Stop s bytes p.0 p.1 behind)
      (ap (λ (u : S). ([], u)) ended.0 ∙ same.0) stopped)
  step_takes n s bytes others (Some x) between behind e xs t rest f =
      let a =
      bind_ok (run n between behind) (λ l. Ok ((x ∷ l.0.0, l.0.1), l.1)) ((xs, t), rest) f in
      let same = pair_same (x ∷ a.0.0.0, a.0.0.1) (xs, t) a.0.1 rest a.2 in
      let b = items.takes s bytes x between behind e in
      let c =
      others between behind a.0.0.0 a.0.0.1 a.0.1
      (shorter s b.0 (x, between) bytes behind b.2 b.1) a.1 in
      let stopped : Stopped Is Stop s bytes (x ∷ a.0.0.0) a.0.0.1 a.0.1 = record {
        front = b.0 ++ c.front;
        tail = c.tail;
        split = joined bytes b.0 behind c.front c.tail b.1 c.split;
        are = more s b.0 x between c.front a.0.0.0 a.0.0.1 b.2 c.are;
        stop = c.stop;
      } in
      subst (λ (r : List ℕ). Stopped Is Stop s bytes xs t r) same.1
      (subst (λ (p : List A × S). Stopped Is Stop s bytes p.0 p.1 a.0.1) same.0 stopped)

  run_takes : (n : ℕ) (s : S) (bytes : List ℕ) (xs : List A) (t : S) (rest : List ℕ)
      → length bytes ≤ n
      → run n s bytes ≡ Ok ((xs, t), rest) → Stopped Is Stop s bytes xs t rest
  run_takes zero s bytes xs t rest few e =
      let a =
      bind_ok (next s bytes) (chained (run 0)) ((xs, t), rest) (sym (one_turn s bytes few) ∙ e) in
      step_takes 0 s bytes
      (λ u left xs t rest less e. absurd (omega arith)) a.0.0.0 a.0.0.1 a.0.1 a.1 xs t rest a.2
  run_takes (suc n) s bytes xs t rest few e =
      let a = bind_ok (next s bytes) (chained (run n)) ((xs, t), rest) e in
      step_takes n s bytes
      (λ u left xs t rest less e. run_takes n u left xs t rest
      (omega arith) e) a.0.0.0 a.0.0.1 a.0.1 a.1 xs t rest a.2

  pub all_takes : (s : S) (bytes : List ℕ) (xs : List A) (t : S) (rest : List ℕ)
      → all_by next spent s bytes ≡ Ok ((xs, t), rest) → Stopped Is Stop s bytes xs t rest
  unfolding all_by
  all_takes s bytes xs t rest e = run_takes (length bytes) s bytes xs t rest (omega arith) e

  -- ---- what is read again

  ends_many : (y : A) (s : S) (front : List ℕ) (xs : List A) (t : S) → Many Is s front xs t
      → (tail rest : List ℕ)
      → Stop t tail rest → Ends (y, s) (front ++ tail)
  ends_many y s [] xs t (none s') tail rest stop = items.ends_at_stop y s' tail rest stop
  ends_many y s front xs t (more s' first x u others ys t' is many) tail rest stop =
      subst (Ends (y, s')) (sym (append_assoc first others tail))
      (items.ends_before y s' first (x, u) (others ++ tail) is)

  run_again : (s : S) (front : List ℕ) (xs : List A) (t : S) → Many Is s front xs t
      → (tail rest : List ℕ)
      → Stop t tail rest
      → (n : ℕ) → length (front ++ tail) ≤ n → run n s (front ++ tail) ≡ Ok ((xs, t), rest)
  run_again s front xs t (none s') tail rest stop zero few =
      one_turn s' tail few
      ∙ ap (λ (r : Reading (Option A × S)). r >>= chained (run 0)) (items.halts s' tail rest stop)
  run_again s front xs t (none s') tail rest stop (suc n) few =
      ap (λ (r : Reading (Option A × S)). r >>= chained (run n)) (items.halts s' tail rest stop)
  run_again s front xs t (more s' first x u others ys t' is many) tail rest stop zero few =
      let whole = append_assoc first others tail in
      let less = shorter s' first (x, u) ((first ++ others) ++ tail) (others ++ tail) is whole in
      absurd (omega arith)
  run_again s front xs t (more s' first x u others ys t' is many) tail rest stop (suc n) few =
      let whole = append_assoc first others tail in
      let less = shorter s' first (x, u) ((first ++ others) ++ tail) (others ++ tail) is whole in
      ap (run (suc n) s') whole
      ∙ ap (λ (r : Reading (Option A × S)). r >>= chained (run n))
      (items.again s' first x u (others ++ tail) is
      (ends_many x u others ys t' many tail rest stop))
      ∙ ap (λ (r : Reading (List A × S)). told (λ l. (x ∷ l.0, l.1)) r)
      (run_again u others ys t' many tail rest stop n (omega arith))

  pub all_again : (s : S) (front : List ℕ) (xs : List A) (t : S) (tail rest : List ℕ)
      → Many Is s front xs t
      → Stop t tail rest → all_by next spent s (front ++ tail) ≡ Ok ((xs, t), rest)
  unfolding all_by
  all_again s front xs t tail rest many stop =
      run_again s front xs t many tail rest stop (length (front ++ tail)) (omega arith)

  -- ---- what is refused

  step_stops : (n : ℕ) (s : S) (bytes : List ℕ)
      → ((u : S) (left : List ℕ) (fault : DocFault) → length left < length bytes
      → run n u left ≡ Err fault
      → RefusedAmong Is Ends Refused u left fault)
      → (o : Option A) (between : S) (behind : List ℕ) → next s bytes ≡ Ok ((o, between), behind)
      → (fault : DocFault) → chained (run n) ((o, between), behind) ≡ Err fault
      → RefusedAmong Is Ends Refused s bytes fault
  step_stops n s bytes others None between behind e fault f = absurd (no_fault f)
  step_stops n s bytes others (Some x) between behind e fault f =
      elim (bind_err (run n between behind) (λ l. Ok ((x ∷ l.0.0, l.0.1), l.1)) fault f) [
        | inl failed ↦
            let b = items.takes s bytes x between behind e in
            let c =
            others between behind fault (shorter s b.0 (x, between) bytes behind b.2 b.1) failed in
            subst (λ (l : List ℕ). RefusedAmong Is Ends Refused s l fault) (sym b.1)
            (later s b.0 x between behind fault b.2 b.3 c)
        | inr read ↦ absurd (no_fault read.2)
      ]

  run_stops : (n : ℕ) (s : S) (bytes : List ℕ) (fault : DocFault) → length bytes ≤ n
      → run n s bytes ≡ Err fault
      → RefusedAmong Is Ends Refused s bytes fault
  run_stops zero s bytes fault few e =
      elim (bind_err (next s bytes) (chained (run 0)) fault (sym (one_turn s bytes few) ∙ e)) [
        | inl failed ↦ here s bytes fault (items.stops s bytes fault failed)
        | inr read ↦ step_stops 0 s bytes
            (λ u left fault less e. absurd (omega arith))
            read.0.0.0 read.0.0.1 read.0.1 read.1 fault read.2
      ]
  run_stops (suc n) s bytes fault few e = elim (bind_err (next s bytes) (chained (run n)) fault e) [
    | inl failed ↦ here s bytes fault (items.stops s bytes fault failed)
    | inr read ↦ step_stops n s bytes
        (λ u left fault less e. run_stops n u left fault
        (omega arith) e) read.0.0.0 read.0.0.1 read.0.1 read.1 fault read.2
  ]

  pub all_stops : (s : S) (bytes : List ℕ) (fault : DocFault)
      → all_by next spent s bytes ≡ Err fault
      → RefusedAmong Is Ends Refused s bytes fault
  unfolding all_by
  all_stops s bytes fault e = run_stops (length bytes) s bytes fault (omega arith) e

  run_fails : (s : S) (bytes : List ℕ) (fault : DocFault)
      → RefusedAmong Is Ends Refused s bytes fault → (n : ℕ)
      → length bytes ≤ n → run n s bytes ≡ Err fault
  run_fails s bytes fault (here s' b f refused) zero few =
      one_turn s' b few
      ∙ ap (λ (r : Reading (Option A × S)). r >>= chained (run 0)) (items.fails s' b f refused)
  run_fails s bytes fault (here s' b f refused) (suc n) few =
      ap (λ (r : Reading (Option A × S)). r >>= chained (run n)) (items.fails s' b f refused)
  run_fails s bytes fault (later s' front x u rest f is ends refused) zero few =
      let less = shorter s' front (x, u) (front ++ rest) rest is refl in
      absurd (omega arith)
  run_fails s bytes fault (later s' front x u rest f is ends refused) (suc n) few =
      let less = shorter s' front (x, u) (front ++ rest) rest is refl in
      ap (λ (r : Reading (Option A × S)). r >>= chained (run n))
      (items.again s' front x u rest is ends)
      ∙ ap (λ (r : Reading (List A × S)). told (λ l. (x ∷ l.0, l.1)) r)
      (run_fails u rest f refused n (omega arith))

  pub all_fails : (s : S) (bytes : List ℕ) (fault : DocFault)
      → RefusedAmong Is Ends Refused s bytes fault
      → all_by next spent s bytes ≡ Err fault
  unfolding all_by
  all_fails s bytes fault refused = run_fails s bytes fault refused (length bytes) (omega arith)

-- ---- items after which nothing stands that could be one, and items with an end

abbrev pub StopsOpen : {S : Type 0} → (S → List ℕ → Type 0) → S → List ℕ → List ℕ → Type 0
StopsOpen NoMore s bytes rest = (bytes ≡ rest) × NoMore s rest

abbrev pub StopsAt : {S : Type 0} → ℕ → S → List ℕ → List ℕ → Type 0
StopsAt byte s bytes rest = bytes ≡ byte ∷ rest

module _ {A S : Type 0} {next : Next A S} {spent : S → List ℕ → Reading (List A × S)}
    {Is : S → List ℕ → A × S → Type 0}
    {Ends : A × S → List ℕ → Type 0} {Refused : S → Refusal} where
  pub reads_open : (NoMore : S → List ℕ → Type 0)
      → Items next spent Is Ends (StopsOpen NoMore) Refused → (s : S)
      → Reads (λ (x : List A × S). NoMore x.1) (all_by next spent s) (ManyOf Is s)
      (RefusedAmong Is Ends Refused s)
  reads_open NoMore items s = record {
    takes = λ bytes x rest e.
        let c = all_takes items s bytes x.0 x.1 rest e in
        (c.front, c.split ∙ ap (λ (l : List ℕ). c.front ++ l) c.stop.0, c.are, c.stop.1);
    again = λ front x rest are ends. all_again items s front x.0 x.1 rest rest are (refl, ends);
    stops = all_stops items s;
    fails = all_fails items s;
  }

  pub reads_ended : (byte : ℕ) → Items next spent Is Ends (StopsAt byte) Refused → (s : S)
      → Reads Anything (all_by next spent s) (Ended byte Is s) (RefusedAmong Is Ends Refused s)
  reads_ended byte items s = record {
    takes = λ bytes x rest e.
        let c = all_takes items s bytes x.0 x.1 rest e in (
          c.front ++ (byte ∷ []),
          joined bytes c.front c.tail (byte ∷ []) rest c.split c.stop,
          record { front = c.front; spelled = refl; items = c.are },
          tt,
        );
    again = λ front x rest is ends.
        ap (λ (l : List ℕ). all_by next spent s (l ++ rest)) is.spelled
        ∙ ap (all_by next spent s) (append_assoc is.front (byte ∷ []) rest)
        ∙ all_again items s is.front x.0 x.1 (byte ∷ rest) rest is.items refl;
    stops = all_stops items s;
    fails = all_fails items s;
  }
