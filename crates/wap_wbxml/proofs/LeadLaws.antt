-- Items by the byte that they begin with.
use Rattle.std.proofs.Common.{◌≡◌, ℕ, ◌<◌, Bool, true, false, List, [], ◌∷◌, ◌++◌}
use Rattle.std.proofs.Common.{length, Option, Some, None, Ok, Err, refl, sym, ap, ◌∙◌}
use Rattle.std.proofs.Common.{append_assoc, inl, inr, arith, true≢false}
use Rattle.std.proofs.lemmas.List.{length-append}
use Rattle.wap_base.specs.Outcome.{◌>>=◌}
use Rattle.wap_base.proofs.Choices.{bind_ok, bind_err, ok_same, some_same}
use Rattle.wap_base.proofs.formats.Readers.{pair_same, joined}
use Rattle.wap_tokens.specs.declared.markup.codes.TheConstants.{END, SWITCH_PAGE}
use Rattle.wap_tokens.specs.declared.markup.mark.Lead.{Lead}
use Rattle.wap_tokens.specs.markup.Spellings.{Then}
use Rattle.wap_tokens.specs.markup.Grammar.{IsLead}
use Rattle.wap_wbxml.specs.declared.fault.DocFault.{DocFault}
use Rattle.wap_wbxml.specs.reading.ByteReading.{Reading, Next, some, told, chained}
use Rattle.wap_wbxml.specs.reading.Fronts.{lead_in, or_short, lead_at}
use Rattle.wap_wbxml.specs.reading.BodyReading.{as_short}
use Rattle.wap_wbxml.specs.Refusals.{Refusal, Anything, RefusedThen}
use Rattle.wap_wbxml.specs.Refusal.{RefusedLead, RefusedUnless}
use Rattle.wap_wbxml.proofs.Readings.{Reads, no_fault, no_value}
use Rattle.wap_wbxml.proofs.Runs.{Items, StopsAt}
use Rattle.wap_wbxml.proofs.FrontLaws.{reads_lead}

pub lead_length : (page : ℕ) (front : List ℕ) (lead : Lead) → IsLead page front lead
    → 0 < length front
lead_length page [] lead is = absurd is
lead_length page (byte ∷ front) lead is = omega arith

-- a byte alone
pub lead_alone : (page : ℕ) (front : List ℕ) (lead : Lead) (byte : ℕ) → IsLead page front lead
    → lead.byte ≡ byte
    → lead.switched ≡ false → front ≡ byte ∷ []
lead_alone page [] lead byte is same plain = absurd is
lead_alone page (b ∷ []) lead byte is same plain =
    ap (λ (n : ℕ). n ∷ []) (sym (ap (λ (l : Lead). l.byte) is.1) ∙ same)
lead_alone page (b ∷ c ∷ []) lead byte is same plain = absurd is
lead_alone page (b ∷ c ∷ d ∷ []) lead byte is same plain =
    absurd (true≢false (sym (ap (λ (l : Lead). l.switched) is.1) ∙ plain))
lead_alone page (b ∷ c ∷ d ∷ e ∷ front) lead byte is same plain = absurd is

or_short_some : {A : Type 0} (total : ℕ) (o : Option A) (x : A)
    → or_short total o ≡ Ok x → o ≡ Some x
or_short_some total (Some y) x e = ap Some (ok_same y x e)
or_short_some total None x e = absurd (no_value e)

pub lead_seen : (page : ℕ) (bytes : List ℕ) (lead : Lead) (rest : List ℕ)
    → lead_in page bytes ≡ Some (lead, rest)
    → (front : List ℕ) × (bytes ≡ front ++ rest) × IsLead page front lead × Anything lead rest
unfolding lead_at
lead_seen page bytes lead rest e = (reads_lead 0 page).takes bytes lead rest (ap (or_short 0) e)

pub lead_of : (page : ℕ) (front : List ℕ) (lead : Lead) (rest : List ℕ) → IsLead page front lead
    → lead_in page (front ++ rest) ≡ Some (lead, rest)
unfolding lead_at
lead_of page front lead rest is =
    or_short_some 0 (lead_in page (front ++ rest)) (lead, rest)
    ((reads_lead 0 page).again front lead rest is tt)

pub some_pair : {A S : Type 0} (a b : A) (s t : S) → ◌≡◌ {A = Option A × S} (Some a, s) (Some b, t)
    → ◌≡◌ {A = A × S} (a, s) (b, t)
some_pair {A = A} {S = S} a b s t e =
    ap (λ (x : A). (x, s)) (some_same a b (ap (λ (p : Option A × S). p.0) e))
    ∙ ap (λ (u : S). (b, u)) (ap (λ (p : Option A × S). p.1) e)

pub none_some : {A S : Type 0} (b : A) (s t : S) → ◌≡◌ {A = Option A × S} (None, s) (Some b, t) → ⊥
none_some {A = A} {S = S} b s t e = no (ap (λ (p : Option A × S). p.0) e)
  where
    no : None ≡ Some b → ⊥
    no f = cc

pub some_none : {A S : Type 0} (b : A) (s t : S) → ◌≡◌ {A = Option A × S} (Some b, s) (None, t) → ⊥
some_none b s t e = none_some b t s (sym e)

pub none_same : {A S : Type 0} (s t : S) → ◌≡◌ {A = Option A × S} (None, s) (None, t) → s ≡ t
none_same {A = A} {S = S} s t e = ap (λ (p : Option A × S). p.1) e

-- ---- items up to an end, by their first byte

module _ {A S : Type 0} (total : ℕ) (page : S → ℕ) (ends : Lead → Bool)
    (item : S → Lead → List ℕ → Reading (A × S)) where
  abbrev pub led_from : S → Lead → Bool → List ℕ → Reading (Option A × S)
  led_from s lead true rest = Ok ((None, s), rest)
  led_from s lead false rest = told some (item s lead rest)

  abbrev pub led_next : Next A S
  led_next s bytes = lead_at total (page s) bytes >>= λ lead. led_from s lead.0 (ends lead.0) lead.1

  module _ (Ends : A × S → List ℕ → Type 0) (Is : S → Lead → List ℕ → A × S → Type 0)
      (Refused : S → Lead → Refusal)
      (reads : (s : S) (lead : Lead) → ends lead ≡ false
      → Reads Ends (item s lead) (Is s lead) (Refused s lead))
      (no_end : (s : S) (lead : Lead) (bytes : List ℕ) (x : A × S) → Is s lead bytes x
      → ends lead ≡ false)
      (is_end : (lead : Lead) → ends lead ≡ true → (lead.byte ≡ END) × (lead.switched ≡ false))
      (end_is : (n : ℕ) → ends (record { switched = false; page = n; byte = END }) ≡ true) where
    abbrev IsLed : S → List ℕ → A × S → Type 0
    IsLed s = Then (IsLead (page s)) (Is s)

    abbrev RefusedLed : S → Refusal
    RefusedLed s =
        RefusedThen (IsLead (page s)) (RefusedLead total)
        (λ lead. RefusedUnless (ends lead) (Refused s lead))

    from_takes : (s : S) (lead : Lead) (b : Bool) → ends lead ≡ b
        → (rest : List ℕ) (x : A) (t : S) (behind : List ℕ)
        → led_from s lead b rest ≡ Ok ((Some x, t), behind)
        → (front : List ℕ) × (rest ≡ front ++ behind) × Is s lead front (x, t) × Ends (x, t) behind
    from_takes s lead true b rest x t behind e =
        absurd (none_some x s t (pair_same (None, s) (Some x, t) rest behind e).0)
    from_takes s lead false b rest x t behind e =
        let a = bind_ok (item s lead rest) (λ y. Ok (some y.0, y.1)) ((Some x, t), behind) e in
        let same = pair_same (some a.0.0) (Some x, t) a.0.1 behind a.2 in
        let value : a.0.0 ≡ (x, t) = some_pair a.0.0.0 x a.0.0.1 t same.0 in
        (reads s lead b).takes rest (x, t) behind
        (a.1 ∙ ap (λ (p : A × S). Ok (p, a.0.1)) value ∙ ap (λ (l : List ℕ). Ok ((x, t), l)) same.1)

    led_takes : (s : S) (bytes : List ℕ) (x : A) (t : S) (rest : List ℕ)
        → led_next s bytes ≡ Ok ((Some x, t), rest)
        → (front : List ℕ) × (bytes ≡ front ++ rest) × IsLed s front (x, t) × Ends (x, t) rest
    led_takes s bytes x t rest e =
        let a =
        bind_ok (lead_at total (page s) bytes) (λ lead. led_from s lead.0 (ends lead.0) lead.1)
        ((Some x, t), rest) e in
        let b = (reads_lead total (page s)).takes bytes a.0.0 a.0.1 a.1 in
        let c = from_takes s a.0.0 (ends a.0.0) refl a.0.1 x t rest a.2 in (
          b.0 ++ c.0,
          joined bytes b.0 a.0.1 c.0 rest b.1 c.1,
          record { front = b.0; rest = c.0; spelled = refl; a = a.0.0; first = b.2; next = c.2 },
          c.3,
        )

    behind_lead : (s : S) (front : List ℕ) (lead : Lead) (rest : List ℕ)
        → IsLead (page s) front lead
        → led_next s (front ++ rest) ≡ led_from s lead (ends lead) rest
    behind_lead s front lead rest is =
        ap (λ (r : Reading Lead). r >>= λ y. led_from s y.0 (ends y.0) y.1)
        ((reads_lead total (page s)).again front lead rest is tt)

    led_again : (s : S) (front : List ℕ) (x : A) (t : S) (rest : List ℕ) → IsLed s front (x, t)
        → Ends (x, t) rest
        → led_next s (front ++ rest) ≡ Ok ((Some x, t), rest)
    led_again s front x t rest is over =
        let plain = no_end s is.a is.rest (x, t) is.next in
        ap (λ (l : List ℕ). led_next s (l ++ rest)) is.spelled
        ∙ ap (led_next s) (append_assoc is.front is.rest rest)
        ∙ behind_lead s is.front is.a (is.rest ++ rest) is.first
        ∙ ap (λ (b : Bool). led_from s is.a b (is.rest ++ rest)) plain
        ∙ ap (λ (r : Reading (A × S)). told some r)
        ((reads s is.a plain).again is.rest (x, t) rest is.next over)

    from_ends : (s : S) (lead : Lead) (b : Bool) → ends lead ≡ b
        → (rest : List ℕ) (t : S) (behind : List ℕ)
        → led_from s lead b rest ≡ Ok ((None, t), behind)
        → (s ≡ t) × (rest ≡ behind) × (ends lead ≡ true)
    from_ends s lead true b rest t behind e =
        let same = pair_same (None, s) (None, t) rest behind e in
        (none_same s t same.0, same.1, b)
    from_ends s lead false b rest t behind e =
        let a = bind_ok (item s lead rest) (λ y. Ok (some y.0, y.1)) ((None, t), behind) e in
        absurd (some_none a.0.0.0 a.0.0.1 t (pair_same (some a.0.0) (None, t) a.0.1 behind a.2).0)

    led_ends : (s : S) (bytes : List ℕ) (t : S) (rest : List ℕ)
        → led_next s bytes ≡ Ok ((None, t), rest)
        → (s ≡ t) × StopsAt END s bytes rest
    led_ends s bytes t rest e =
        let a =
        bind_ok (lead_at total (page s) bytes) (λ lead. led_from s lead.0 (ends lead.0) lead.1)
        ((None, t), rest) e in
        let b = (reads_lead total (page s)).takes bytes a.0.0 a.0.1 a.1 in
        let c = from_ends s a.0.0 (ends a.0.0) refl a.0.1 t rest a.2 in
        let over = is_end a.0.0 c.2 in (
          c.0,
          b.1 ∙ ap (λ (l : List ℕ). l ++ a.0.1)
              (lead_alone (page s) b.0 a.0.0 END b.2 over.0 over.1)
              ∙ ap (λ (l : List ℕ). END ∷ l) c.1,
        )

    led_halts : (s : S) (bytes rest : List ℕ) → StopsAt END s bytes rest
        → led_next s bytes ≡ Ok ((None, s), rest)
    led_halts s bytes rest stop =
        ap (led_next s) stop
        ∙ behind_lead s (END ∷ []) (record { switched = false; page = page s; byte = END }) rest
        (not_switch, refl)
        ∙ ap (λ (b : Bool).
        led_from s (record { switched = false; page = page s; byte = END }) b rest)
        (end_is (page s))
      where
        not_switch : END ≡ SWITCH_PAGE → ⊥
        not_switch e = omega arith

    from_stops : (s : S) (lead : Lead) (b : Bool) → ends lead ≡ b
        → (rest : List ℕ) (fault : DocFault)
        → led_from s lead b rest ≡ Err fault → RefusedUnless b (Refused s lead) rest fault
    from_stops s lead true b rest fault e = absurd (no_fault e)
    from_stops s lead false b rest fault e =
        elim (bind_err (item s lead rest) (λ y. Ok (some y.0, y.1)) fault e) [
          | inl failed ↦ (reads s lead b).stops rest fault failed
          | inr read ↦ absurd (no_fault read.2)
        ]

    led_stops : (s : S) (bytes : List ℕ) (fault : DocFault) → led_next s bytes ≡ Err fault
        → RefusedLed s bytes fault
    led_stops s bytes fault e =
        elim (bind_err (lead_at total (page s) bytes)
        (λ lead. led_from s lead.0 (ends lead.0) lead.1) fault e) [
          | inl failed ↦ inl ((reads_lead total (page s)).stops bytes fault failed)
          | inr read ↦
              let b = (reads_lead total (page s)).takes bytes read.0.0 read.0.1 read.1 in
              inr (record {
                front = b.0;
                rest = read.0.1;
                spelled = b.1;
                a = read.0.0;
                is = b.2;
                ends = tt;
                refused = from_stops s read.0.0 (ends read.0.0) refl read.0.1 fault read.2;
              })
        ]

    from_fails : (s : S) (lead : Lead) (b : Bool) → ends lead ≡ b
        → (rest : List ℕ) (fault : DocFault)
        → RefusedUnless b (Refused s lead) rest fault → led_from s lead b rest ≡ Err fault
    from_fails s lead true b rest fault refused = absurd refused
    from_fails s lead false b rest fault refused =
        ap (λ (r : Reading (A × S)). told some r) ((reads s lead b).fails rest fault refused)

    led_fails : (s : S) (bytes : List ℕ) (fault : DocFault) → RefusedLed s bytes fault
        → led_next s bytes ≡ Err fault
    led_fails s bytes fault refused = elim refused [
      | inl here ↦ ap (λ (r : Reading Lead). r >>= λ y. led_from s y.0 (ends y.0) y.1)
          ((reads_lead total (page s)).fails bytes fault here)
      | inr later ↦
          ap (led_next s) later.spelled ∙ behind_lead s later.front later.a later.rest later.is
          ∙ from_fails s later.a (ends later.a) refl later.rest fault later.refused
    ]

    led_some : (s : S) (front : List ℕ) (x : A × S) → IsLed s front x → 0 < length front
    led_some s front x is =
        let some = lead_length (page s) is.front is.a is.first in
        let len = ap length is.spelled ∙ length-append is.front is.rest in
        omega arith

    pub led_items : ((y : A) (s : S) (front : List ℕ) (x : A × S) (rest : List ℕ) → IsLed s front x
        → Ends (y, s) (front ++ rest))
        → ((y : A) (s : S) (bytes rest : List ℕ) → StopsAt END s bytes rest → Ends (y, s) bytes)
        → Items led_next (as_short total) IsLed Ends (StopsAt END) RefusedLed
    unfolding lead_at
    led_items before at_stop = record {
      takes =
          led_takes;
      again = led_again;
      ends = led_ends;
      halts = led_halts;
      stops = led_stops;
      fails = led_fails;
      some = led_some;
      at_nothing = λ s. refl;
      ends_before = before;
      ends_at_stop = at_stop;
    }

-- the same items by another reading
pub items_as : {A S : Type 0} {next other : Next A S} {spent : S → List ℕ → Reading (List A × S)}
    {Is : S → List ℕ
    → A × S → Type 0}
    {Ends : A × S → List ℕ → Type 0} {Stop : S → List ℕ → List ℕ → Type 0} {Refused : S → Refusal}
    → ((s : S) (bytes : List ℕ) → next s bytes ≡ other s bytes)
    → Items next spent Is Ends Stop Refused
    → Items other spent Is Ends Stop Refused
items_as {A = A} {S = S} {spent = spent} same items = record {
  takes = λ s bytes x t rest e. items.takes s bytes x t rest (same s bytes ∙ e);
  again =
      λ s front x t rest is ends.
      sym (same s (front ++ rest)) ∙ items.again s front x t rest is ends;
  ends = λ s bytes t rest e. items.ends s bytes t rest (same s bytes ∙ e);
  halts = λ s bytes rest stop. sym (same s bytes) ∙ items.halts s bytes rest stop;
  stops = λ s bytes fault e. items.stops s bytes fault (same s bytes ∙ e);
  fails = λ s bytes fault refused. sym (same s bytes) ∙ items.fails s bytes fault refused;
  some = items.some;
  at_nothing =
      λ s.
      items.at_nothing s ∙ ap (λ (r : Reading (Option A × S)). r >>= chained spent) (same s []);
  ends_before = items.ends_before;
  ends_at_stop = items.ends_at_stop;
}

-- the same items, refused by other words
pub items_refusing : {A S : Type 0} {next : Next A S} {spent : S → List ℕ → Reading (List A × S)}
    {Is : S → List ℕ
    → A × S → Type 0}
    {Ends : A × S → List ℕ → Type 0} {Stop : S → List ℕ → List ℕ → Type 0}
    {Refused Others : S → Refusal}
    → ((s : S) (bytes : List ℕ) (fault : DocFault) → Refused s bytes fault → Others s bytes fault)
    → ((s : S) (bytes : List ℕ) (fault : DocFault) → Others s bytes fault → Refused s bytes fault)
    → Items next spent Is Ends Stop Refused → Items next spent Is Ends Stop Others
items_refusing forth back items = record {
  takes = items.takes;
  again = items.again;
  ends = items.ends;
  halts = items.halts;
  stops = λ s bytes fault e. forth s bytes fault (items.stops s bytes fault e);
  fails = λ s bytes fault refused. items.fails s bytes fault (back s bytes fault refused);
  some = items.some;
  at_nothing = items.at_nothing;
  ends_before = items.ends_before;
  ends_at_stop = items.ends_at_stop;
}
