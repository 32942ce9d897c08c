-- What it is to read the things of a relation, and to refuse what isn't such; and how such readers
-- are put together.
use Rattle.std.proofs.Common.{◌≡◌, ℕ, ◌-◌, Bool, true, false, cond, List, [], ◌++◌, length, Option}
use Rattle.std.proofs.Common.{Some, None, Result, Ok, Err, refl, sym, ap, subst, ◌∙◌, append_assoc}
use Rattle.std.proofs.Common.{inl, inr}
use Rattle.wap_base.specs.Outcome.{◌>>=◌}
use Rattle.wap_base.proofs.Choices.{bind_ok, bind_err, ok_same}
use Rattle.wap_base.specs.formats.Sequences.{InTurn, Then, Passing, Made, MadeIf}
use Rattle.wap_base.specs.formats.Refusal.{Refusal, Never, RefusesInTurn, RefusesUnless}
use Rattle.wap_base.specs.formats.Refusal.{RefusesPassing}
use Rattle.wap_base.specs.formats.Refusal.{RefusesMadeIf}
use Rattle.wap_base.specs.formats.ByteReading.{Reader, in_turn, given, judged, failing, unless}
use Rattle.wap_base.specs.formats.ByteReading.{passing}
use Rattle.wap_base.specs.formats.ByteReading.{made, value_or, made_if}
use Rattle.wap_base.proofs.formats.Parts.{parts_of, alone, added}

-- read reads a front that is such, and gives up exactly where it is refused
pub record Reads {E A : Type 0} (read : Reader E A) (Is : List ℕ → A → Type 0)
    (Refuses : Refusal E) : Type 0 where
  pub takes : (end : ℕ) (bytes : List ℕ) (x : A) (rest : List ℕ) → read end bytes ≡ Ok (x, rest)
      → (front : List ℕ) × (bytes ≡ front ++ rest) × Is front x
  pub again : (end : ℕ) (front : List ℕ) (x : A) (rest : List ℕ) → Is front x
      → read end (front ++ rest) ≡ Ok (x, rest)
  pub stops : (end : ℕ) (bytes : List ℕ) (found : E) → read end bytes ≡ Err found
      → Refuses end bytes found
  pub fails : (end : ℕ) (bytes : List ℕ) (found : E) → Refuses end bytes found
      → read end bytes ≡ Err found

-- a value and the rest are known of what is read
pub pair_same : {E A : Type 0} (x y : A) (l m : List ℕ)
    → ◌≡◌ {A = Result (A × List ℕ) E} (Ok (x, l)) (Ok (y, m)) → (x ≡ y) × (l ≡ m)
pair_same {A = A} x y l m e =
    let same = ok_same (x, l) (y, m) e in
    (ap (λ (z : A × List ℕ). z.0) same, ap (λ (z : A × List ℕ). z.1) same)

-- ---- a value and what follows it

-- two prefixes are one
pub joined : (bytes a l b rest : List ℕ) → bytes ≡ a ++ l → l ≡ b ++ rest → bytes ≡ (a ++ b) ++ rest
joined bytes a l b rest first second =
    first ∙ ap (λ (x : List ℕ). a ++ x) second ∙ sym (append_assoc a b rest)

module _ {E A B : Type 0} {read : Reader E A} {next : A → Reader E B}
    {Is : List ℕ → A → Type 0} {Refuses : Refusal E} {Are : A → List ℕ → B → Type 0}
    {Refused : A → Refusal E}
    (first : Reads read Is Refuses) (second : (x : A) → Reads (next x) (Are x) (Refused x)) where
  -- a value and what follows it are read
  both_takes : (end : ℕ) (bytes : List ℕ) (y : B) (rest : List ℕ)
      → in_turn read next end bytes ≡ Ok (y, rest)
      → (front : List ℕ) × (bytes ≡ front ++ rest) × Then Is (λ x l. Are x l y) front
  both_takes end bytes y rest e =
      let a = bind_ok (read end bytes) (λ x. next x.0 end x.1) (y, rest) e in
      let one = first.takes end bytes a.0.0 a.0.1 a.1 in
      let two = (second a.0.0).takes end a.0.1 y rest a.2 in (
        one.0 ++ two.0,
        joined bytes one.0 a.0.1 two.0 rest one.1 two.1,
        (
          a.0.0,
          record { front = one.0; back = two.0; split = refl; first = one.2; second = two.2 },
        ),
      )

  -- and read again
  both_again : (end : ℕ) (front : List ℕ) (y : B) (rest : List ℕ) → Then Is (λ x l. Are x l y) front
      → in_turn read next end (front ++ rest) ≡ Ok (y, rest)
  both_again end front y rest is =
      let parts = is.1 in
      let split : front ++ rest ≡ parts.front ++ (parts.back ++ rest) =
      ap (λ (l : List ℕ). l ++ rest) parts.split ∙ append_assoc parts.front parts.back rest in
      ap (in_turn read next end) split
      ∙ ap (λ (r : Result (A × List ℕ) E). r >>= λ x. next x.0 end x.1)
      (first.again end parts.front is.0 (parts.back ++ rest) parts.first)
      ∙ (second is.0).again end parts.back y rest parts.second

  -- where one of them isn't read, it is refused
  both_stops : (end : ℕ) (bytes : List ℕ) (found : E)
      → in_turn read next end bytes ≡ Err found → RefusesInTurn Refuses Is Refused end bytes found
  both_stops end bytes found e = elim (bind_err (read end bytes) (λ x. next x.0 end x.1) found e) [
    | inl a ↦ inl (first.stops end bytes found a)
    | inr b ↦
        let one = first.takes end bytes b.0.0 b.0.1 b.1 in
        inr (record {
          value = b.0.0;
          front = one.0;
          rest = b.0.1;
          split = one.1;
          whole = one.2;
          refused = (second b.0.0).stops end b.0.1 found b.2;
        })
  ]

  -- where one of them is refused, it isn't read
  both_fails : (end : ℕ) (bytes : List ℕ) (found : E)
      → RefusesInTurn Refuses Is Refused end bytes found → in_turn read next end bytes ≡ Err found
  both_fails end bytes found (inl a) =
      ap (λ (r : Result (A × List ℕ) E). r >>= λ x. next x.0 end x.1)
      (first.fails end bytes found a)
  both_fails end bytes found (inr b) =
      ap (in_turn read next end) b.split
      ∙ ap (λ (r : Result (A × List ℕ) E). r >>= λ x. next x.0 end x.1)
      (first.again end b.front b.value b.rest b.whole)
      ∙ (second b.value).fails end b.rest found b.refused

  -- a value and what follows it
  pub reads_in_turn : Reads (in_turn read next) (λ bytes y. Then Is (λ x l. Are x l y) bytes)
      (RefusesInTurn Refuses Is Refused)
  reads_in_turn =
      record { takes = both_takes; again = both_again; stops = both_stops; fails = both_fails }

-- ---- what reads no bytes

-- a value of no bytes
pub reads_given : {E A : Type 0} (x : A)
    → Reads {E = E} (given x) (λ bytes y. (bytes ≡ []) × (y ≡ x)) Never
reads_given x = record {
  takes =
      λ end bytes y rest e.
      let same = pair_same x y bytes rest e in ([], same.1, (refl, sym same.0));
  again =
      λ end front y rest is.
      ap (λ (l : List ℕ). Ok (x, l ++ rest)) is.0 ∙ ap (λ z. Ok (z, rest)) (sym is.1);
  stops = λ end bytes found e. absurd (cc e);
  fails = λ end bytes found refuses. absurd refuses;
}

-- nothing
pub reads_failing : {E A : Type 0} (failed : E)
    → Reads {A = A} (failing failed) (λ bytes y. ⊥) (λ end left found. found ≡ failed)
reads_failing failed = record {
  takes = λ end bytes y rest e. absurd (cc e);
  again = λ end front y rest is. absurd is;
  stops = λ end bytes found e. cc e;
  fails = λ end bytes found refuses. ap Err (sym refuses);
}

-- ---- the same in other words

module _ {E A : Type 0} {read : Reader E A} {Is : List ℕ → A → Type 0} {Refuses : Refusal E}
    (reads : Reads read Is Refuses) where
  -- the same relation and the same refusal in other words
  pub reads_so : {Are : List ℕ → A → Type 0} {Refused : Refusal E}
      → ((bytes : List ℕ) (x : A) → Is bytes x → Are bytes x)
      → ((bytes : List ℕ) (x : A) → Are bytes x → Is bytes x)
      → ((end : ℕ) (left : List ℕ) (found : E) → Refuses end left found → Refused end left found)
      → ((end : ℕ) (left : List ℕ) (found : E) → Refused end left found → Refuses end left found)
      → Reads read Are Refused
  reads_so forth back out home = record {
    takes =
        λ end bytes x rest e. let a = reads.takes end bytes x rest e in (a.0, a.1, forth a.0 x a.2);
    again = λ end front x rest is. reads.again end front x rest (back front x is);
    stops = λ end bytes found e. out end bytes found (reads.stops end bytes found e);
    fails = λ end bytes found refuses. reads.fails end bytes found (home end bytes found refuses);
  }

  -- the same relation in other words
  pub reads_as : {Are : List ℕ → A → Type 0} → ((bytes : List ℕ) (x : A) → Is bytes x → Are bytes x)
      → ((bytes : List ℕ) (x : A) → Are bytes x → Is bytes x) → Reads read Are Refuses
  reads_as forth back =
      reads_so forth back (λ end left found is. is) (λ end left found is. is)

  -- what follows where a test is passed
  pub reads_unless : (test : Bool) (failed : E) → Reads (unless test failed read)
      (λ bytes x. (test ≡ true) × Is bytes x) (RefusesUnless test failed Refuses)
  reads_unless true failed =
      reads_so (λ bytes x is. (refl, is)) (λ bytes x is. is.1) (λ end left found is. inr (refl, is))
      (λ end left found is. elim is [ inl fault ↦ absurd (cc fault.0) | inr next ↦ next.1 ])
  reads_unless false failed = record {
    takes = λ end bytes x rest e. absurd (cc e);
    again = λ end front x rest is. absurd (cc is.0);
    stops = λ end bytes found e. inl (refl, cc e);
    fails =
        λ end bytes found refuses.
        elim refuses [ inl fault ↦ ap Err (sym fault.1) | inr next ↦ absurd (cc next.0) ];
  }

-- what is judged is read where the test is passed
pub reads_judged : {E A : Type 0} (x : A) (test : Bool) (failed : E)
    → Reads (judged (cond test (Ok x) (Err failed)))
    (λ bytes y. (bytes ≡ []) × ((test ≡ true) × (y ≡ x))) (RefusesUnless test failed Never)
reads_judged x true failed =
    reads_as (reads_unless (reads_given x) true failed)
    (λ bytes y is. (is.1.0, (is.0, is.1.1))) (λ bytes y is. (is.1.0, (is.0, is.1.1)))
reads_judged x false failed =
    reads_as (reads_unless (reads_given x) false failed)
    (λ bytes y is. (is.1.0, (is.0, is.1.1))) (λ bytes y is. (is.1.0, (is.0, is.1.1)))

-- what depends on its own place is read at that place
pub reads_here : {E A : Type 0} {read : ℕ → Reader E A} {Is : List ℕ → A → Type 0}
    {Refuses : ℕ → Refusal E} → ((at : ℕ) → Reads (read at) Is (Refuses at))
    → Reads (λ end bytes. read (end - length bytes) end bytes) Is
    (λ end left found. Refuses (end - length left) end left found)
reads_here reads = record {
  takes = λ end bytes. (reads (end - length bytes)).takes end bytes;
  again = λ end front x rest. (reads (end - length (front ++ rest))).again end front x rest;
  stops = λ end bytes. (reads (end - length bytes)).stops end bytes;
  fails = λ end bytes. (reads (end - length bytes)).fails end bytes;
}

-- ---- a value, and what is made of it

-- what is made, where something is
reads_value : {E B : Type 0} (failed : E) (of : Option B) → Reads
    (λ end bytes. value_or failed bytes of) (λ bytes y. (bytes ≡ []) × (of ≡ Some y))
    (λ end left found. (of ≡ None) × (found ≡ failed))
reads_value failed (Some x) =
    reads_so (reads_given x) (λ bytes y is. (is.0, ap Some (sym is.1)))
    (λ bytes y is. (is.0, sym (cc is.1))) (λ end left found is. absurd is)
    (λ end left found is. absurd (cc is.0))
reads_value failed None =
    reads_so (reads_failing failed) (λ bytes y is. absurd is) (λ bytes y is. absurd (cc is.1))
    (λ end left found is. (refl, is)) (λ end left found is. is.1)

-- a value where a test is passed
reads_tested : {E A : Type 0} (failed : E) (test : Bool) (x : A) → Reads
    (λ end bytes. cond test (Ok (x, bytes)) (Err failed))
    (λ bytes y. (bytes ≡ []) × ((test ≡ true) × (y ≡ x)))
    (λ end left found. (test ≡ false) × (found ≡ failed))
reads_tested failed true x =
    reads_so (reads_given x) (λ bytes y is. (is.0, (refl, is.1))) (λ bytes y is. (is.0, is.1.1))
    (λ end left found is. absurd is) (λ end left found is. absurd (cc is.0))
reads_tested failed false x =
    reads_so (reads_failing failed) (λ bytes y is. absurd is) (λ bytes y is. absurd (cc is.1.0))
    (λ end left found is. (refl, is)) (λ end left found is. is.1)

module _ {E A : Type 0} {read : Reader E A} {Is : List ℕ → A → Type 0} {Refuses : Refusal E}
  where
    -- what is made of a value
    pub reads_made : {B : Type 0} → Reads read Is Refuses → (make : A → B)
        → Reads (made make read) (Made make Is) Refuses
    reads_made reads make =
        reads_so (reads_in_turn reads (λ x. reads_given (make x))) (λ bytes y. alone bytes)
        (λ bytes y. added bytes)
        (λ end left found is. elim is [ inl first ↦ first | inr none ↦ absurd none.refused ])
        (λ end left found is. inl is)

    -- what is made of a value where something is
    pub reads_made_if : {B : Type 0} (make : A → Option B) (failed : ℕ → E) → Reads read Is Refuses
        → Reads (made_if make failed read) (MadeIf make Is) (RefusesMadeIf make failed Is Refuses)
    reads_made_if make failed reads =
        reads_as
        (reads_here (λ at. reads_in_turn reads (λ x. reads_value (failed at) (make x))))
        (λ bytes y. alone bytes) (λ bytes y. added bytes)

    -- a value where it passes a test
    pub reads_passing : (test : A → Bool) (failed : ℕ → E) → Reads read Is Refuses
        → Reads (passing test failed read) (Passing test Is) (RefusesPassing test failed Is Refuses)
    reads_passing test failed reads =
        reads_as (reads_here (λ at. reads_in_turn reads (λ x. reads_tested (failed at) (test x) x)))
        (λ bytes y is.
        let one = alone bytes is in subst (Passing test Is bytes) (sym one.2.1) (one.1, one.2.0))
        (λ bytes y is. added bytes (y, is.0, (is.1, refl)))

-- a value that is known of what follows it
module _ {E A B : Type 0} {read : Reader E A} {next : A → Reader E B} {Is : List ℕ → A → Type 0}
    {Refuses : Refusal E} {Are : A → List ℕ → B → Type 0} {Refused : A → Refusal E}
    (first : Reads read Is Refuses) (second : (x : A) → Reads (next x) (Are x) (Refused x)) where
  pub reads_known : {Rest : List ℕ → B → Type 0} (of : B → A)
      → ((x : A) (l : List ℕ) (y : B) → Are x l y → (of y ≡ x) × Rest l y)
      → ((l : List ℕ) (y : B) → Rest l y → Are (of y) l y) → Reads (in_turn read next)
      (λ bytes y. InTurn (λ front. Is front (of y)) (λ back. Rest back y) bytes)
      (RefusesInTurn Refuses Is Refused)
  reads_known of forth back =
      reads_as (reads_in_turn first second)
      (λ bytes y is.
      let known = forth is.0 is.1.back y is.1.second in
      parts_of is.1 (subst (Is is.1.front) (sym known.0) is.1.first) known.1)
      (λ bytes y is. (of y, parts_of is is.first (back is.back y is.second)))
