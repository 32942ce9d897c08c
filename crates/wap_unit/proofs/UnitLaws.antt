-- What is read is a unit, each unit is read, and a fault is the first one from the left, both ways.
use Rattle.std.proofs.Common.{◌≡◌, ◌≢◌, ℕ, suc, ◌-◌, ◌<◌, ◌≤◌, ◌^◌, Bool, true, false, cond, eqb}
use Rattle.std.proofs.Common.{ltb, List, [], ◌∷◌, ◌++◌, length, get_or, Result, Ok, Err, refl, sym}
use Rattle.std.proofs.Common.{ap, subst, ◌∙◌, ◌⊎◌, inl, inr, arith}
use Rattle.std.specs.List.{AllByRecursion}
use Rattle.std.specs.Prelude.{IfOk, IfErr}
use Rattle.std.proofs.lemmas.Bool.{eqb-true, eqb-false, ltb-true, ltb-false, lt-ltb, le-ltb}
use Rattle.std.proofs.lemmas.Bool.Decides.{nat_tests}
use Rattle.std.proofs.lemmas.List.{append-nil, nil_from_length}
use Rattle.wap_base.specs.Outcome.{◌>>=◌, Meets}
use Rattle.wap_base.specs.Numbers.{IsMb}
use Rattle.wap_base.proofs.Choices.{chosen, bind_ok, bind_err, ok_same}
use Rattle.wap_unit.specs.declared.unit.Unit.{Unit}
use Rattle.wap_unit.specs.declared.fault.UnitFault.{UnitFault}
use Rattle.wap_unit.specs.declared.fault.UnitFault.TheVariants as fault
use Rattle.wap_unit.specs.declared.reading.TheConstants.{GREATEST_VERSION}
use Rattle.wap_unit.specs.Units.{IsHead, IsUnit}
use Rattle.wap_unit.specs.Refusal.{IsRefused, no_version, other_version}
use Rattle.wap_unit.specs.Refusal.{no_size, other_size, inside, behind}
use Rattle.wap_unit.specs.reading.ByteReading.{byte_at, number_at}
use Rattle.wap_unit.specs.reading.UnitReading.{body_at, ended, sized_body, unit_by, unit_at}
use Rattle.wap_unit.proofs.UnitItems.{IsBodyOf, reads_byte, reads_number, reads_body}

-- what comes of reading the parts of a unit
abbrev Read : Type 0
Read = Result (Unit × List ℕ) UnitFault

-- what comes of reading a number
abbrev Number : Type 0
Number = Result (ℕ × List ℕ) UnitFault

-- the version byte
first_byte : (end : ℕ) (bytes : List ℕ) (v : ℕ) (rest : List ℕ) → byte_at end bytes ≡ Ok (v, rest)
    → bytes ≡ v ∷ rest
first_byte end bytes v rest e =
    let one = reads_byte.takes end bytes v rest e in
    one.1 ∙ ap (λ (l : List ℕ). l ++ rest) one.2

-- the version and the number of the bytes that follow
head_of : (bytes : List ℕ) (v : ℕ) (rest size body : List ℕ) (number : ℕ) → bytes ≡ v ∷ rest
    → v ≤ GREATEST_VERSION → rest ≡ size ++ body → IsMb size number → number ≡ length body
    → IsHead bytes v body
head_of bytes v rest size body number first low split is same =
    record {
      size = size;
      spelled = first ∙ ap (λ (l : List ℕ). v ∷ l) split;
      low = low;
      size_is = subst (IsMb size) same is;
    }

-- ---- what is read

-- nothing follows the parts
body_whole : (version : ℕ) (body front rest : List ℕ) (unit : Unit) → body ≡ front ++ rest
    → length rest ≤ 0 → IsBodyOf version front unit → IsBodyOf version body unit
body_whole version body front rest unit split none is =
    let nothing : rest ≡ [] = nil_from_length rest (omega arith) in
    subst (λ (l : List ℕ). IsBodyOf version l unit)
    (sym (split ∙ ap (λ (l : List ℕ). front ++ l) nothing ∙ append-nil front)) is

-- what is read after the number is a body of this length
sized_takes : (end v : ℕ) (size : ℕ × List ℕ) (unit : Unit) → sized_body end v size ≡ Ok unit
    → (size.0 ≡ length size.1) × IsBodyOf v size.1 unit
sized_takes end v size unit e =
    elim (chosen (eqb size.0 (length size.1)) (body_at v end size.1 >>= ended end)
    (Err (fault.Size 1)) (Ok unit) e) [
      | inl t ↦
          let a = bind_ok (body_at v end size.1) (ended end) unit t.1 in
          let b = (reads_body v).takes end size.1 a.0.0 a.0.1 a.1 in
          elim (chosen (ltb 0 (length a.0.1)) (Err (fault.Size (end - length a.0.1))) (Ok a.0.0)
          (Ok unit) a.2) [
            | inl more ↦ absurd (cc more.1)
            | inr none ↦ (
              eqb-true _ _ t.0,
              subst (IsBodyOf v size.1) (ok_same a.0.0 unit none.1)
                  (body_whole v size.1 b.0 a.0.1 a.0.0 b.1 (ltb-false _ _ none.0) b.2),
            )
          ]
      | inr f ↦ absurd (cc f.1)
    ]

-- numbers below 256
abbrev AreBytes : List ℕ → Type 0
AreBytes bytes = AllByRecursion (λ byte. byte < 256) bytes

-- what is read is a unit
pub unit_takes : (bytes : List ℕ) (unit : Unit) → AreBytes bytes → unit_at bytes ≡ Ok unit
    → IsUnit bytes unit
unfolding unit_at unit_by
unit_takes bytes unit are e =
    let end : ℕ = length bytes in
    let a = bind_ok (byte_at end bytes) (unit_by end) unit e in
    let v : ℕ = a.0.0 in
    elim (chosen (ltb GREATEST_VERSION v) (Err (fault.Version 0))
    (number_at end a.0.1 >>= sized_body end v) (Ok unit) a.2) [
      | inl high ↦ absurd (cc high.1)
      | inr low ↦
          let b = bind_ok (number_at end a.0.1) (sized_body end v) unit low.1 in
          let n = reads_number.takes end a.0.1 b.0.0 b.0.1 b.1 in
          let body = sized_takes end v b.0 unit b.2 in
          let head =
          head_of bytes v a.0.1 n.0 b.0.1 b.0.0 (first_byte end bytes v a.0.1 a.1)
          (ltb-false _ _ low.0) n.1 n.2 body.0 in
          record {
            bytes_are = are;
            body = b.0.1;
            head = subst (λ (w : ℕ). IsHead bytes w b.0.1) (sym body.1.version_is) head;
            body_is = body.1.body;
          }
    ]

-- ---- each unit is read

-- the version is one that is read
low_version : (v : ℕ) → v ≤ GREATEST_VERSION → ltb GREATEST_VERSION v ≡ false
low_version v low = le-ltb GREATEST_VERSION v low

-- the number of the bytes that follow is read
number_read : (end v number : ℕ) (size body : List ℕ) → v ≤ GREATEST_VERSION → IsMb size number
    → unit_by end (v, size ++ body) ≡ sized_body end v (number, body)
unfolding unit_by
number_read end v number size body low is =
    ap (λ (b : Bool).
    cond b (Err (fault.Version 0)) (number_at end (size ++ body) >>= sized_body end v))
    (low_version v low)
    ∙ ap (λ (r : Number). r >>= sized_body end v) (reads_number.again end size number body is)

-- a number equals itself
eqb-same : (n : ℕ) → eqb n n ≡ true
eqb-same n = grind (arith, nat_tests)

-- after the version and the number the parts are read
entered : (bytes : List ℕ) (v : ℕ) (body : List ℕ) → IsHead bytes v body
    → unit_at bytes ≡ (body_at v (length bytes) body >>= ended (length bytes))
unfolding unit_at
entered bytes v body head =
    let end : ℕ = length bytes in
    ap (λ (l : List ℕ). byte_at end l >>= unit_by end) head.spelled
    ∙ number_read end v (length body) head.size body head.low head.size_is
    ∙ ap (λ (b : Bool). cond b (body_at v end body >>= ended end) (Err (fault.Size 1)))
    (eqb-same (length body))

-- a unit is read
pub unit_again : (bytes : List ℕ) (unit : Unit) → IsUnit bytes unit → unit_at bytes ≡ Ok unit
unit_again bytes unit is =
    let end : ℕ = length bytes in
    let body : IsBodyOf unit.version is.body unit =
    record { version_is = refl; body = is.body_is } in
    entered bytes unit.version is.body is.head
    ∙ ap (λ (l : List ℕ). body_at unit.version end l >>= ended end) (sym (append-nil is.body))
    ∙ ap (λ (r : Read). r >>= ended end) ((reads_body unit.version).again end is.body unit [] body)

-- ---- what is refused

-- what isn't read after the number is refused
body_stops : (bytes : List ℕ) (v : ℕ) (body : List ℕ) (found : UnitFault) → IsHead bytes v body
    → (body_at v (length bytes) body >>= ended (length bytes)) ≡ Err found → IsRefused bytes found
body_stops bytes v body found head e =
    let end : ℕ = length bytes in
    elim (bind_err (body_at v end body) (ended end) found e) [
      | inl a ↦ inside v body head ((reads_body v).stops end body found a)
      | inr b ↦
          let unit : Unit = b.0.0 in
          let rest : List ℕ = b.0.1 in
          let c = (reads_body v).takes end body unit rest b.1 in
          elim (chosen (ltb 0 (length rest)) (Err (fault.Size (end - length rest))) (Ok unit)
          (Err found) b.2) [
            | inl more ↦
                behind unit body c.0 rest (subst (λ (w : ℕ). IsHead bytes w body)
                (sym c.2.version_is) head) c.1 c.2.body (ltb-true _ _ more.0) (cc more.1)
            | inr none ↦ absurd (cc none.1)
          ]
    ]

-- what isn't read is refused
pub unit_stops : (bytes : List ℕ) (found : UnitFault) → unit_at bytes ≡ Err found
    → IsRefused bytes found
unfolding unit_at unit_by
unit_stops bytes found e =
    let end : ℕ = length bytes in
    elim (bind_err (byte_at end bytes) (unit_by end) found e) [
      | inl a ↦
          let lacks = reads_byte.stops end bytes found a in
          no_version lacks.0 (lacks.1 ∙ ap (λ (l : List ℕ). fault.Short (length l)) lacks.0)
      | inr b ↦
          let v : ℕ = b.0.0 in
          let rest : List ℕ = b.0.1 in
          let first = first_byte end bytes v rest b.1 in
          elim (chosen (ltb GREATEST_VERSION v) (Err (fault.Version 0))
          (number_at end rest >>= sized_body end v) (Err found) b.2) [
            | inl high ↦ other_version v rest first (ltb-true _ _ high.0) (cc high.1)
            | inr low ↦ elim (bind_err (number_at end rest) (sized_body end v) found low.1) [
              | inl c ↦
                  no_size v rest first (ltb-false _ _ low.0) (reads_number.stops end rest found c)
              | inr d ↦
                  let number : ℕ = d.0.0 in
                  let body : List ℕ = d.0.1 in
                  let n = reads_number.takes end rest number body d.1 in
                  elim (chosen (eqb number (length body)) (body_at v end body >>= ended end)
                  (Err (fault.Size 1)) (Err found) d.2) [
                    | inl same ↦
                        body_stops bytes v body found (head_of bytes v rest n.0 body number first
                        (ltb-false _ _ low.0) n.1 n.2 (eqb-true _ _ same.0)) same.1
                    | inr other ↦
                        other_size v number n.0 body (first ∙ ap (λ (l : List ℕ). v ∷ l) n.1)
                        (ltb-false _ _ low.0) n.2 (eqb-false _ _ other.0) (cc other.1)
                  ]
            ]
          ]
    ]

-- a test that numbers are equal fails where they differ
tested : (b : Bool) (m n : ℕ) → eqb m n ≡ b → m ≢ n → b ≡ false
tested true m n e apart = absurd (apart (eqb-true m n e))
tested false m n e apart = refl

-- what is refused isn't read
pub unit_fails : (bytes : List ℕ) (found : UnitFault) → IsRefused bytes found
    → unit_at bytes ≡ Err found
unfolding unit_at unit_by
unit_fails bytes found (no_version none is) = ap unit_at none ∙ ap Err (sym is)
unit_fails bytes found (other_version v rest first high is) =
    let end : ℕ = length bytes in
    ap (λ (l : List ℕ). byte_at end l >>= unit_by end) first
    ∙ ap (λ (b : Bool). cond b (Err (fault.Version 0)) (number_at end rest >>= sized_body end v))
    (lt-ltb GREATEST_VERSION v high)
    ∙ ap Err (sym is)
unit_fails bytes found (no_size v rest first low refuses) =
    let end : ℕ = length bytes in
    ap (λ (l : List ℕ). byte_at end l >>= unit_by end) first
    ∙ ap (λ (b : Bool). cond b (Err (fault.Version 0)) (number_at end rest >>= sized_body end v))
    (low_version v low)
    ∙ ap (λ (r : Number). r >>= sized_body end v) (reads_number.fails end rest found refuses)
unit_fails bytes found (other_size v number size rest spelled low is apart same) =
    let end : ℕ = length bytes in
    ap (λ (l : List ℕ). byte_at end l >>= unit_by end) spelled
    ∙ number_read end v number size rest low is
    ∙ ap (λ (b : Bool). cond b (body_at v end rest >>= ended end) (Err (fault.Size 1)))
    (tested (eqb number (length rest)) number (length rest) refl apart)
    ∙ ap Err (sym same)
unit_fails bytes found (inside v body head refuses) =
    let end : ℕ = length bytes in
    entered bytes v body head
    ∙ ap (λ (r : Read). r >>= ended end) ((reads_body v).fails end body found refuses)
unit_fails bytes found (behind unit body front rest head split is more same) =
    let end : ℕ = length bytes in
    let body_is : IsBodyOf unit.version front unit = record { version_is = refl; body = is } in
    entered bytes unit.version body head
    ∙ ap (λ (l : List ℕ). body_at unit.version end l >>= ended end) split
    ∙ ap (λ (r : Read). r >>= ended end)
    ((reads_body unit.version).again end front unit rest body_is)
    ∙ ap (λ (b : Bool). cond b (Err (fault.Size (end - length rest))) (Ok unit))
    (lt-ltb 0 (length rest) more)
    ∙ ap Err (sym same)

-- ---- both together

-- bytes are a unit, or have a fault
pub read_or_refused : (bytes : List ℕ) → AreBytes bytes
    → ((unit : Unit) × IsUnit bytes unit) ⊎ ((found : UnitFault) × IsRefused bytes found)
read_or_refused bytes are = by_result (unit_at bytes) refl
  where
    by_result : (r : Result Unit UnitFault) → unit_at bytes ≡ r
        → ((unit : Unit) × IsUnit bytes unit) ⊎ ((found : UnitFault) × IsRefused bytes found)
    by_result (Ok unit) is = inl (unit, unit_takes bytes unit are is)
    by_result (Err found) is = inr (found, unit_stops bytes found is)

-- equal outcomes have equal faults
pub err_same : (one two : UnitFault) → ◌≡◌ {A = Result Unit UnitFault} (Err one) (Err two)
    → one ≡ two
err_same one two e = cc e

-- ---- for a call

-- the bytes of a slice are bytes
pub are_bytes : (bytes : List ℕ) → ((i : ℕ) → get_or bytes i 0 < 2 ^ 8) → AreBytes bytes
are_bytes [] fits = tt
are_bytes (byte ∷ bytes) fits = (fits 0, are_bytes bytes (λ i. fits (suc i)))

-- what a call gives is the unit
pub found_is : (bytes : List ℕ) (r : Result Unit UnitFault) → AreBytes bytes
    → Meets fault.NoMemory (λ u. u) r (unit_at bytes) → IfOk r (λ unit. IsUnit bytes unit)
found_is bytes (Ok unit) are meets = unit_takes bytes unit are meets
found_is bytes (Err found) are meets = tt

-- why a call gives none is the fault
pub refused_is : (bytes : List ℕ) (r : Result Unit UnitFault)
    → Meets fault.NoMemory (λ u. u) r (unit_at bytes)
    → IfErr r (λ found. found ≢ fault.NoMemory → IsRefused bytes found)
refused_is bytes (Ok unit) meets = tt
refused_is bytes (Err found) meets = λ other. unit_stops bytes found (meets other)
