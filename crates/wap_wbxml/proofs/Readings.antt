-- What ties a reading to what bytes spell and to what is refused, and how such readings are put
-- together.
use Rattle.std.proofs.Common.{◌≡◌, ℕ, ◌-◌, List, ◌++◌, Result, Ok, Err, refl, sym, ap, subst, ◌∙◌}
use Rattle.std.proofs.Common.{append_assoc, inl, inr}
use Rattle.wap_base.specs.Outcome.{◌>>=◌}
use Rattle.wap_base.specs.formats.ByteReading.{Reader}
use Rattle.wap_base.specs.formats.Refusal as formats
use Rattle.wap_base.proofs.Choices.{bind_ok, bind_err, ok_same}
use Rattle.wap_base.proofs.formats.Readers
use Rattle.wap_base.proofs.formats.Readers.{pair_same, joined}
use Rattle.wap_tokens.specs.markup.Spellings.{Then, Told, Given, Never}
use Rattle.wap_wbxml.specs.declared.fault.DocFault.{DocFault}
use Rattle.wap_wbxml.specs.Places.{place_before}
use Rattle.wap_wbxml.specs.Refusals.{Refusal, NotRefused, EitherRefused}
use Rattle.wap_wbxml.specs.Refusals.{BehindWhole, RefusedThen, Anything}
use Rattle.wap_wbxml.specs.reading.ByteReading.{Reading, told}

-- A value that was read is spelled by a prefix of the bytes, and it ends there; what is so spelled
-- is read; a fault is a refusal; and what is refused is a fault.
pub record Reads {A : Type 0} (Ends : A → List ℕ → Type 0) (read : List ℕ → Reading A)
    (Is : List ℕ → A → Type 0)
    (Refused : Refusal) : Type 0 where
  pub takes : (bytes : List ℕ) (x : A) (rest : List ℕ) → read bytes ≡ Ok (x, rest)
      → (front : List ℕ) × (bytes ≡ front ++ rest) × Is front x × Ends x rest
  pub again : (front : List ℕ) (x : A) (rest : List ℕ) → Is front x → Ends x rest
      → read (front ++ rest) ≡ Ok (x, rest)
  pub stops : (bytes : List ℕ) (fault : DocFault) → read bytes ≡ Err fault → Refused bytes fault
  pub fails : (bytes : List ℕ) (fault : DocFault) → Refused bytes fault → read bytes ≡ Err fault

-- a reading at its place in an input of this length
pub at_end : {A : Type 0} {read : Reader DocFault A} {Is : List ℕ → A → Type 0}
    {Refuses : formats.Refusal DocFault} → Readers.Reads read Is Refuses → (total : ℕ)
    → Reads Anything (read total) Is (Refuses total)
at_end reads total = record {
  takes = λ bytes x rest e. let a = reads.takes total bytes x rest e in (a.0, a.1, a.2, tt);
  again = λ front x rest is ends. reads.again total front x rest is;
  stops = reads.stops total;
  fails = reads.fails total;
}

pub no_fault : {A : Type 0} {x : A} {fault : DocFault}
    → ◌≡◌ {A = Result A DocFault} (Ok x) (Err fault) → ⊥
no_fault e = cc

pub no_value : {A : Type 0} {x : A} {fault : DocFault}
    → ◌≡◌ {A = Result A DocFault} (Err fault) (Ok x) → ⊥
no_value e = cc

-- ---- one part after another

module _ {A B : Type 0} {Ends : A → List ℕ → Type 0} {End : B → List ℕ → Type 0}
    {read : List ℕ → Reading A}
    (more : A → List ℕ → Reading B)
    {Is : List ℕ → A → Type 0} {Next : A → List ℕ → B → Type 0} {First : Refusal}
    {Refused : A → Refusal} where
  pub reads_behind : Reads Ends read Is First → ((a : A) → Reads End (more a) (Next a) (Refused a))
      → ((a : A) (front : List ℕ) (b : B) (rest : List ℕ) → Next a front b → End b rest
      → Ends a (front ++ rest))
      → Reads End (λ bytes. read bytes >>= λ x. more x.0 x.1) (Then Is Next)
      (EitherRefused First (BehindWhole Is Ends Refused))
  reads_behind first second linked = record {
    takes = λ bytes x rest e.
        let a = bind_ok (read bytes) (λ y. more y.0 y.1) (x, rest) e in
        let b = first.takes bytes a.0.0 a.0.1 a.1 in
        let c = (second a.0.0).takes a.0.1 x rest a.2 in (
          b.0 ++ c.0,
          joined bytes b.0 a.0.1 c.0 rest b.1 c.1,
          record { front = b.0; rest = c.0; spelled = refl; a = a.0.0; first = b.2; next = c.2 },
          c.3,
        );
    again = λ front x rest is ends.
        ap (λ (l : List ℕ). read (l ++ rest) >>= λ y. more y.0 y.1) is.spelled
        ∙ ap (λ (l : List ℕ). read l >>= λ y. more y.0 y.1) (append_assoc is.front is.rest rest)
        ∙ ap (λ (r : Reading A). r >>= λ y. more y.0 y.1)
        (first.again is.front is.a (is.rest ++ rest) is.first
        (linked is.a is.rest x rest is.next ends))
        ∙ (second is.a).again is.rest x rest is.next ends;
    stops = λ bytes fault e. elim (bind_err (read bytes) (λ y. more y.0 y.1) fault e) [
      | inl here ↦ inl (first.stops bytes fault here)
      | inr later ↦
          let b = first.takes bytes later.0.0 later.0.1 later.1 in
          inr (record {
            front = b.0;
            rest = later.0.1;
            spelled = b.1;
            a = later.0.0;
            is = b.2;
            ends = b.3;
            refused =
                (second later.0.0).stops later.0.1 fault later.2;
          })
    ];
    fails = λ bytes fault refused. elim refused [
      | inl here ↦ ap (λ (r : Reading A). r >>= λ y. more y.0 y.1) (first.fails bytes fault here)
      | inr later ↦
          ap (λ (l : List ℕ). read l >>= λ y. more y.0 y.1) later.spelled
          ∙ ap (λ (r : Reading A). r >>= λ y. more y.0 y.1)
          (first.again later.front later.a later.rest later.is later.ends)
          ∙ (second later.a).fails later.rest fault later.refused
    ];
  }

module _ {A B : Type 0} {End : B → List ℕ → Type 0} {read : List ℕ → Reading A}
    (more : A → List ℕ → Reading B)
    {Is : List ℕ → A → Type 0} {Next : A → List ℕ → B → Type 0} {First : Refusal}
    {Refused : A → Refusal} where
  pub reads_then : Reads Anything read Is First
      → ((a : A) → Reads End (more a) (Next a) (Refused a))
      → Reads End (λ bytes. read bytes >>= λ x. more x.0 x.1) (Then Is Next)
      (RefusedThen Is First Refused)
  reads_then first second = reads_behind more first second (λ a front b rest next ends. tt)

-- ---- what is made of a value

module _ {A B : Type 0} {Ends : A → List ℕ → Type 0} {End : B → List ℕ → Type 0}
    {read : List ℕ → Reading A}
    (make : A → B)
    {Is : List ℕ → A → Type 0} {Refused : Refusal} where
  pub reads_told : Reads Ends read Is Refused
      → ((a : A) (rest : List ℕ) → Ends a rest → End (make a) rest)
      → ((a : A) (rest : List ℕ) → End (make a) rest → Ends a rest)
      → Reads End (λ bytes. told make (read bytes)) (Told make Is) Refused
  reads_told reads forth back = record {
    takes = λ bytes x rest e.
        let a = bind_ok (read bytes) (λ y. Ok (make y.0, y.1)) (x, rest) e in
        let same = pair_same (make a.0.0) x a.0.1 rest a.2 in
        let c = reads.takes bytes a.0.0 a.0.1 a.1 in (
          c.0,
          c.1 ∙ ap (λ (l : List ℕ). c.0 ++ l) same.1,
          record { a = a.0.0; is = c.2; made = sym same.0 },
          subst (λ (p : B × List ℕ). End p.0 p.1) (ok_same (make a.0.0, a.0.1) (x, rest) a.2)
              (forth a.0.0 a.0.1 c.3),
        );
    again = λ front x rest is ends.
        ap (λ (r : Reading A). r >>= λ y. Ok (make y.0, y.1))
        (reads.again front is.a rest is.is
        (back is.a rest (subst (λ (y : B). End y rest) is.made ends)))
        ∙ ap (λ (y : B). Ok (y, rest)) (sym is.made);
    stops = λ bytes fault e. elim (bind_err (read bytes) (λ y. Ok (make y.0, y.1)) fault e) [
      | inl here ↦ reads.stops bytes fault here
      | inr later ↦ absurd (no_fault later.2)
    ];
    fails =
        λ bytes fault refused.
        ap (λ (r : Reading A). r >>= λ y. Ok (make y.0, y.1)) (reads.fails bytes fault refused);
  }

-- ---- what reads no bytes

-- a value of no bytes
pub reads_given : {A : Type 0} (x : A)
    → Reads Anything (λ bytes. Ok (x, bytes)) (Given x) NotRefused
reads_given x = at_end (Readers.reads_given x) 0

-- nothing, which is a fault at the byte before
pub reads_never : {A : Type 0} (fault : ℕ → DocFault) (total : ℕ)
    → Reads {A = A} Anything (λ bytes. Err (fault (place_before total bytes))) Never
    (λ bytes found. found ≡ fault (place_before total bytes))
reads_never fault = at_end (Readers.reads_here (λ at. Readers.reads_failing (fault (at - 1))))

-- ---- the same by other words

module _ {A : Type 0} {Ends : A → List ℕ → Type 0} {read : List ℕ → Reading A} {Is : List ℕ → A
    → Type 0} {Refused : Refusal} (reads : Reads Ends read Is Refused) where
  pub reads_as : (other : List ℕ → Reading A) → ((bytes : List ℕ) → read bytes ≡ other bytes)
      → Reads Ends other Is Refused
  reads_as other same = record {
    takes = λ bytes x rest e. reads.takes bytes x rest (same bytes ∙ e);
    again = λ front x rest is ends. sym (same (front ++ rest)) ∙ reads.again front x rest is ends;
    stops = λ bytes fault e. reads.stops bytes fault (same bytes ∙ e);
    fails = λ bytes fault refused. sym (same bytes) ∙ reads.fails bytes fault refused;
  }

  pub reads_those : {Are : List ℕ → A → Type 0}
      → ((bytes : List ℕ) (x : A) → Is bytes x → Are bytes x)
      → ((bytes : List ℕ) (x : A) → Are bytes x → Is bytes x) → Reads Ends read Are Refused
  reads_those forth back = record {
    takes =
        λ bytes x rest e. let c = reads.takes bytes x rest e in (c.0, c.1, forth c.0 x c.2, c.3);
    again = λ front x rest is ends. reads.again front x rest (back front x is) ends;
    stops = reads.stops;
    fails = reads.fails;
  }
