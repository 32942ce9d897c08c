-- Bytes put one after the other.
use Rattle.std.proofs.Common.{◌≡◌, ℕ, ◌+◌, ◌<◌, Bool, true, false, List, [], ◌∷◌}
use Rattle.std.proofs.Common.{◌++◌, length, get_or, take, map, Ok, Err, inl, inr, refl}
use Rattle.std.proofs.Common.{sym, ap, subst, ◌∙◌, append_assoc, arith}
use Rattle.std.proofs.lemmas.Bool.{cases_Bool}
use Rattle.std.specs.List.{flat_map}
use Rattle.std.proofs.lemmas.List.{append-nil, take_more}
use Rattle.wap_devices.specs.Transfer.{Appends, AppendsPrefix}
use Rattle.wap_devices.specs.Sinks.{SinkSeen, Puts}
use Rattle.wap_devices.specs.declared.fault.Failed.{Failed}
use Rattle.wap_devices.proofs.Transfers.{Appends-then}
use Rattle.wap_devices.proofs.Putting.{prefix_longer, prefix_then, flat_map-push}
use Rattle.wap_dis.specs.inside.Gathering.{State, Moves, Gathers}

-- a flag isn't both
pub unlike : (b : Bool) → b ≡ true → b ≡ false → ⊥
unlike b yes_is no_is = cc

module _ (a b c : SinkSeen) (p q r : State) (x y : List ℕ) (first : Gathers a b p q x)
    (second : Gathers b c q r y) where
  both_whole : r.failed ≡ false → (p.failed ≡ false) × Moves a c p.bytes r.bytes (x ++ y)
  both_whole good =
      let later = second.whole good in
      let earlier = first.whole later.0 in
      let one = earlier.1 in
      let two = later.1 in (
        earlier.0,
        record {
          moved = one.moved ++ two.moved;
          written = Appends-then a.taken b.taken c.taken one.moved two.moved one.written
              two.written;
          same =
              sym (append_assoc p.bytes x y) ∙ ap (λ (l : List ℕ). l ++ y) one.same
              ∙ append_assoc one.moved q.bytes y
              ∙ ap (λ (l : List ℕ). one.moved ++ l) two.same
              ∙ sym (append_assoc one.moved two.moved r.bytes);
        },
      )

  both_broken : r.failed ≡ true → p.failed ≡ false
      → AppendsPrefix a.taken c.taken (p.bytes ++ (x ++ y)) × (a.faults < c.faults)
  both_broken bad good =
      let counts_one = first.counts in
      let counts_two = second.counts in
      elim (cases_Bool q.failed) [
        | inl early ↦
            let broken = first.broken early good in
            let stays = second.stays early in
            let rose = broken.1 in (
              subst (λ (s : SinkSeen). AppendsPrefix a.taken s.taken (p.bytes ++ (x ++ y)))
                  (sym stays.1)
                  (subst (AppendsPrefix a.taken b.taken) (append_assoc p.bytes x y)
                  (prefix_longer a.taken b.taken (p.bytes ++ x) y broken.0)),
              omega arith,
            )
        | inr fine ↦
            let one = (first.whole fine).1 in
            let broken = second.broken bad fine in
            let rose = broken.1 in
            let all : one.moved ++ (q.bytes ++ y) ≡ p.bytes ++ (x ++ y) =
            sym (append_assoc one.moved q.bytes y) ∙ ap (λ (l : List ℕ). l ++ y) (sym one.same)
            ∙ append_assoc p.bytes x y in (
              subst (AppendsPrefix a.taken c.taken) all
                  (prefix_then a.taken b.taken c.taken one.moved (q.bytes ++ y) one.written
                  broken.0),
              omega arith,
            )
      ]

  -- one text after another is the two together
  pub gathers_then : Gathers a c p r (x ++ y)
  gathers_then =
      let counts_one = first.counts in
      let counts_two = second.counts in
      record {
        counts = omega arith;
        steady = λ good. second.steady good ∙ first.steady (second.whole good).0;
        whole = both_whole;
        broken = both_broken;
        stays =
            λ bad.
            let one = first.stays bad in let two = second.stays one.0 in (two.0, two.1 ∙ one.1);
      }

-- what is gathered goes out, and a piece after it
pub writes_both : {A B : Type 0} {d : A} {e : B} (a b c : SinkSeen) (p r : State)
    (piece : List ℕ) → p.failed ≡ false → r.failed ≡ false → r.bytes ≡ []
    → Puts p.bytes a b (Ok d) → Puts piece b c (Ok e) → Gathers a c p r piece
writes_both a b c p r piece fine good empty first second = record {
  counts = omega (arith, first.counts, second.counts);
  steady = λ same. second.steady ∙ first.steady;
  whole = λ same. (
    fine,
    record {
      moved = p.bytes ++ piece;
      written = Appends-then a.taken b.taken c.taken p.bytes piece first.whole second.whole;
      same =
          sym (append-nil (p.bytes ++ piece))
          ∙ ap (λ (l : List ℕ). (p.bytes ++ piece) ++ l) (sym empty);
    },
  );
  broken = λ bad same. absurd (unlike r.failed bad good);
  stays = λ bad. absurd (unlike p.failed bad fine);
}

-- what is gathered doesn't go out whole
pub fails_first : {A : Type 0} {fault : Failed} (a b : SinkSeen) (p r : State) (piece : List ℕ)
    → p.failed ≡ false → r.failed ≡ true → Puts {A = A} p.bytes a b (Err fault)
    → Gathers a b p r piece
fails_first a b p r piece fine bad first = record {
  counts = first.counts;
  steady = λ good. absurd (unlike r.failed bad good);
  whole = λ good. absurd (unlike r.failed bad good);
  broken = λ also good.
      (prefix_longer a.taken b.taken p.bytes piece first.prefix, first.failed);
  stays = λ broke. absurd (unlike p.failed broke fine);
}

-- what is gathered goes out, but the piece after it doesn't go out whole
pub fails_second : {A B : Type 0} {d : A} {fault : Failed} (a b c : SinkSeen) (p r : State)
    (piece : List ℕ) → p.failed ≡ false → r.failed ≡ true → Puts p.bytes a b (Ok d)
    → Puts {A = B} piece b c (Err fault) → Gathers a c p r piece
fails_second a b c p r piece fine bad first second = record {
  counts = omega (arith, first.counts, second.counts);
  steady = λ good. absurd (unlike r.failed bad good);
  whole = λ good. absurd (unlike r.failed bad good);
  broken = λ also good. (
    prefix_then a.taken b.taken c.taken p.bytes piece first.whole second.prefix,
    subst (λ count. count < c.faults) first.steady second.failed,
  );
  stays = λ broke. absurd (unlike p.failed broke fine);
}

-- ---- one thing after the other

pub flat_map-map : {A B : Type 0} (f : B → List ℕ) (g : A → B) (xs : List A)
    → flat_map f (map g xs) ≡ flat_map (λ (x : A). f (g x)) xs
flat_map-map f g [] = refl
flat_map-map f g (x ∷ xs) = ap (λ (l : List ℕ). f (g x) ++ l) (flat_map-map f g xs)

module _ (a b c : SinkSeen) (p q r : State) where
  -- the same, of a thing that is read at a default
  pub puts_at : {A : Type 0} (d : A) (f : A → List ℕ) (xs : List A) (i : ℕ) (piece : List ℕ)
      → i < length xs → piece ≡ f (get_or xs i d) → Gathers a b p q (flat_map f (take i xs))
      → Gathers b c q r piece
      → Gathers a c p r (flat_map f (take (i + 1) xs))
  puts_at d f xs i piece within is before now =
      subst (Gathers a c p r) (ap (λ (l : List ℕ). flat_map f (take i xs) ++ l) is ∙ sym
      (ap (flat_map f) (take_more xs i d within) ∙ flat_map-push f (take i xs) (get_or xs i d)))
      (gathers_then a b c p q r (flat_map f (take i xs)) piece before now)

-- ---- a text to its end

-- nothing was gathered before, nothing is gathered now, and nothing failed: all was written
pub gathers_whole : {A : Type 0} (text : List ℕ) (a c : SinkSeen) (p r : State) (done : A)
    → 0 < length text → p.bytes ≡ [] → r.failed ≡ false → r.bytes ≡ [] → Gathers a c p r text
    → Puts text a c (Ok done)
gathers_whole text a c p r done some start good empty all =
    let moves = (all.whole good).1 in
    let same : text ≡ moves.moved =
    ap (λ (l : List ℕ). l ++ text) (sym start) ∙ moves.same
    ∙ ap (λ (l : List ℕ). moves.moved ++ l) empty ∙ append-nil moves.moved in
    record {
      whole = subst (Appends a.taken c.taken) (sym same) moves.written;
      prefix = tt;
      untouched = λ none. absurd (omega (arith, some, ap length none));
      counts = all.counts;
      failed = tt;
      steady = all.steady good;
    }

-- nothing was gathered before, and something failed: a prefix was written
pub gathers_broken : {A : Type 0} (text : List ℕ) (a c : SinkSeen) (p r : State) (fault : Failed)
    → 0 < length text → p.bytes ≡ [] → p.failed ≡ false → r.failed ≡ true → Gathers a c p r text
    → Puts {A = A} text a c (Err fault)
gathers_broken text a c p r fault some start fine bad all =
    let broken = all.broken bad fine in
    record {
      whole = tt;
      prefix =
          subst (AppendsPrefix a.taken c.taken) (ap (λ (l : List ℕ). l ++ text) start) broken.0;
      untouched = λ none. absurd (omega (arith, some, ap length none));
      counts = all.counts;
      failed = broken.1;
      steady = tt;
    }
