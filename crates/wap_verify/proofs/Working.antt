-- What the verifier keeps about numbers of values, from step to step.
use Rattle.std.proofs.Common.{◌≡◌, ◌≢◌, ℕ, zero, suc, ◌+◌, ◌-◌, ◌<◌, ◌≤◌, max, Bool, true, false}
use Rattle.std.proofs.Common.{eqb, List, [], ◌∷◌, ◌++◌, length, set, replicate, Option, Some, None}
use Rattle.std.proofs.Common.{Ok, refl, sym, ap, subst, ◌∙◌, ◌⊎◌, inl, inr, arith}
use Rattle.std.specs.Prelude.{not, ◌||◌, IfSome, slice_get}
use Rattle.std.specs.List.{list_all}
use Rattle.std.proofs.lemmas.Bool.{or_right, cases_eq, cases_lt, cases_Bool, and_parts, eqb-true}
use Rattle.std.proofs.lemmas.Bool.{not-true}
use Rattle.std.proofs.lemmas.List.{length-set, length-append, length-replicate}
use Rattle.std.proofs.lemmas.Option.{slice_get_within}
use Rattle.wap_base.proofs.Choices.{ok_same, some_same}
use Rattle.wap_unit.specs.declared.unit.Unit.{Unit}
use Rattle.wap_unit.specs.declared.unit.Code.{Code}
use Rattle.wap_verify.specs.declared.step.Step.{Step}
use Rattle.wap_verify.specs.declared.step.Way.{Way}
use Rattle.wap_verify.specs.declared.fault.VerifyFault.{VerifyFault}
use Rattle.wap_verify.specs.declared.fault.VerifyFault.TheVariants as fault
use Rattle.wap_verify.specs.CodePlaces.{way_behind, way_on, step_at}
use Rattle.wap_verify.specs.Paths.{Stand, HasWay, Leads, IsPath, Reaches}
use Rattle.wap_verify.specs.Sound.{Runs, leads_within, has_target, is_aimed}
use Rattle.wap_verify.specs.Sound.{IsSplit, IsSound, IsRoom}
use Rattle.wap_verify.specs.Faults.{IsFunctionFault, underflow, depths}
use Rattle.wap_verify.specs.inside.Work.{GoesOn, is_place, Agrees, AgreesWith, Among, Sane, Arrived}
use Rattle.wap_verify.specs.inside.Work.{Settled, Grows, Works, Visits}
use Rattle.wap_verify.specs.Depths.{State, depth_of, noted, arrived, followed, unseen}
use Rattle.wap_verify.specs.inside.Kept.{IsConflictOn}
use Rattle.wap_verify.specs.runnable.Runnable.{without_last}
use Rattle.wap_verify.proofs.Walks.{eqb-same}

-- ---- lists

-- what was set is there
get_set_same : {A : Type 0} (xs : List A) (i : ℕ) (x : A) → i < length xs
    → slice_get (set xs i x) i ≡ Some x
get_set_same [] i x within = absurd (omega arith)
get_set_same (y ∷ xs) zero x within = refl
get_set_same (y ∷ xs) (suc i) x within = get_set_same xs i x (omega arith)

-- everything else stays
get_set_other : {A : Type 0} (xs : List A) (i j : ℕ) (x : A) → j ≢ i
    → slice_get (set xs i x) j ≡ slice_get xs j
get_set_other [] i j x apart = refl
get_set_other (y ∷ xs) zero zero x apart = absurd (apart refl)
get_set_other (y ∷ xs) zero (suc j) x apart = refl
get_set_other (y ∷ xs) (suc i) zero x apart = refl
get_set_other (y ∷ xs) (suc i) (suc j) x apart = get_set_other xs i j x (λ e. apart (ap suc e))

-- a place that gets a number is one less without
unseen-set : (xs : List (Option ℕ)) (i values : ℕ) → slice_get xs i ≡ Some None
    → 1 + unseen (set xs i (Some values)) ≡ unseen xs
unseen-set [] i values e = absurd cc
unseen-set (None ∷ xs) zero values e = refl
unseen-set (Some other ∷ xs) zero values e = absurd cc
unseen-set (None ∷ xs) (suc i) values e = ap (λ (n : ℕ). 1 + n) (unseen-set xs i values e)
unseen-set (Some other ∷ xs) (suc i) values e = unseen-set xs i values e

-- what is in a list stays in it
among_push : {A : Type 0} (x y : A) (xs : List A) → Among x xs → Among x (xs ++ y ∷ [])
among_push x y [] among = absurd among
among_push x y (z ∷ xs) (inl same) = inl same
among_push x y (z ∷ xs) (inr later) = inr (among_push x y xs later)

-- what was added is in it
among_last : {A : Type 0} (y : A) (xs : List A) → Among y (xs ++ y ∷ [])
among_last y [] = inl refl
among_last y (z ∷ xs) = inr (among_last y xs)

-- what is in a list is before its last, or is its last
pub among_pop : {A : Type 0} (x y : A) (xs : List A) → Among x (xs ++ y ∷ []) → Among x xs ⊎ (x ≡ y)
among_pop x y [] (inl same) = inr same
among_pop x y [] (inr none) = absurd none
among_pop x y (z ∷ xs) (inl same) = inl (inl same)
among_pop x y (z ∷ xs) (inr later) =
    elim (among_pop x y xs later) [ inl before ↦ inl (inr before) | inr last ↦ inr last ]

-- a place of the code that has a number
abbrev kept : ℕ → Option (Option ℕ)
kept values = Some (Some values)

-- it has one number
kept_same : (m n : ℕ) → kept m ≡ kept n → m ≡ n
kept_same m n e = some_same m n (some_same (Some m) (Some n) e)

-- ---- each place that is reached has an instruction

-- what all places pass, one of them passes
pub is_here : (places : List ℕ) (at : ℕ) → is_place places at ≡ true
    → (test : ℕ → Bool) → list_all test places ≡ true → test at ≡ true
is_here [] at among test all = absurd (cc among)
is_here (place ∷ places) at among test all =
    let parts = and_parts (test place) (list_all test places) all in
    elim (cases_Bool (eqb place at)) [
      | inl same ↦ subst (λ (n : ℕ). test n ≡ true) (eqb-true place at same) parts.0
      | inr other ↦
          is_here places at
          (sym (ap (λ (b : Bool). b || is_place places at) other) ∙ among) test parts.1
    ]

module _ (unit : Unit) (index : ℕ) (function : Code) where
  -- a place up to which the code runs is among all places
  pub runs_has : (from : ℕ) (front places : List ℕ) (at : ℕ)
      → Runs unit index function from front at
      → Runs unit index function from places (length function.code) → at < length function.code
      → is_place places at ≡ true
  runs_has from [] [] at one all within = absurd (omega arith)
  runs_has from [] (place ∷ places) at one all within =
      ap (λ (b : Bool). b || is_place places at)
      (ap (λ (n : ℕ). eqb n at) (all.0 ∙ one) ∙ eqb-same at)
  runs_has from (first ∷ front) [] at one all within = let inside = one.1 in absurd (omega arith)
  runs_has from (first ∷ front) (place ∷ places) at one all within =
      let step_same : one.2.0 ≡ all.2.0 = ok_same one.2.0 all.2.0 (sym one.2.1.0 ∙ all.2.1.0) in
      let rest : Runs unit index function all.2.0.next front at =
      subst (λ (s : Step). Runs unit index function s.next front at) step_same one.2.1.1 in
      or_right (eqb place at) (is_place places at)
      (runs_has all.2.0.next front places at rest all.2.1.1 within)

  -- every place is before the end
  place_below : (from : ℕ) (places : List ℕ) (end at : ℕ) → Runs unit index function from places end
      → is_place places at ≡ true → at < length function.code
  place_below from [] end at runs among = absurd (cc among)
  place_below from (place ∷ places) end at runs among = elim (cases_Bool (eqb place at)) [
    | inl same ↦
        subst (λ (n : ℕ). n < length function.code) (sym runs.0 ∙ eqb-true place at same) runs.1
    | inr other ↦
        place_below runs.2.0.next places end at runs.2.1.1
        (sym (ap (λ (b : Bool). b || is_place places at) other) ∙ among)
  ]

  -- at each place an instruction stands
  pub stands_at : (from : ℕ) (places : List ℕ) (end at : ℕ)
      → Runs unit index function from places end → is_place places at ≡ true
      → (step : Step) × (step_at unit index function at ≡ Ok step)
  stands_at from [] end at runs among = absurd (cc among)
  stands_at from (place ∷ places) end at runs among = elim (cases_Bool (eqb place at)) [
    | inl same ↦ (
      runs.2.0,
      ap (step_at unit index function) (sym (eqb-true place at same) ∙ runs.0) ∙ runs.2.1.0,
    )
    | inr other ↦
        stands_at runs.2.0.next places end at runs.2.1.1
        (sym (ap (λ (b : Bool). b || is_place places at) other) ∙ among)
  ]

  -- code runs from its end, or from one of its places
  runs_end : (from : ℕ) (places : List ℕ) (end : ℕ) → Runs unit index function from places end
      → end ≤ length function.code → (from ≡ end) ⊎ (is_place places from ≡ true)
  runs_end from [] end runs within = inl runs
  runs_end from (place ∷ places) end runs within =
      inr (ap (λ (b : Bool). b || is_place places from)
      (ap (λ (n : ℕ). eqb n from) runs.0 ∙ eqb-same from))

  -- what is reached is the end or a place
  abbrev IsPlaced : List ℕ → ℕ → Type 0
  IsPlaced places at = (at ≡ length function.code) ⊎ (is_place places at ≡ true)

  -- the way on leads to the next place
  behind : (next : ℕ) (on : Option ℕ) (way : Way) → way_behind next on ≡ Some way → way.to ≡ next
  behind next None way is = absurd (cc is)
  behind next (Some gives) way is =
      ap (λ (w : Way). w.to) (sym (some_same (record { to = next; gives = gives }) way is))

  -- what follows a place is the end or a place
  after_place : (from : ℕ) (places : List ℕ) (at : ℕ) (step : Step)
      → Runs unit index function from places (length function.code) → is_place places at ≡ true
      → step_at unit index function at ≡ Ok step → IsPlaced places step.next
  after_place from [] at step runs among is = absurd (cc among)
  after_place from (place ∷ places) at step runs among is = elim (cases_Bool (eqb place at)) [
    | inl same ↦
        let here : step_at unit index function from ≡ Ok step =
        ap (step_at unit index function) (sym runs.0 ∙ eqb-true place at same) ∙ is in
        let step_same : runs.2.0 ≡ step = ok_same runs.2.0 step (sym runs.2.1.0 ∙ here) in
        let rest : Runs unit index function step.next places (length function.code) =
        subst (λ (s : Step). Runs unit index function s.next places (length function.code))
        step_same runs.2.1.1 in
        elim (runs_end step.next places (length function.code) rest (omega arith)) [
          | inl ends ↦ inl ends
          | inr among ↦ inr (or_right (eqb place step.next) (is_place places step.next) among)
        ]
    | inr other ↦
        elim (after_place runs.2.0.next places at step runs.2.1.1
        (sym (ap (λ (b : Bool). b || is_place places at) other) ∙ among) is) [
          | inl ends ↦ inl ends
          | inr among ↦ inr (or_right (eqb place step.next) (is_place places step.next) among)
        ]
  ]

  -- a jump leads to the end or to a place
  jump_place : (places : List ℕ) (at : ℕ) (step : Step) (way : Way)
      → is_aimed unit index function places at ≡ true → step_at unit index function at ≡ Ok step
      → step.jump ≡ Some way → IsPlaced places way.to
  jump_place places at step way aimed is jump =
      let target : has_target places (length function.code) (Ok step) ≡ true =
      sym (ap (has_target places (length function.code)) is) ∙ aimed in
      let leads =
      (and_parts (not step.strays)
      (leads_within places (length function.code) step.jump) target).1 in
      let within : leads_within places (length function.code) (Some way) ≡ true =
      sym (ap (leads_within places (length function.code)) jump) ∙ leads in
      elim (cases_Bool (eqb way.to (length function.code))) [
        | inl ends ↦ inl (eqb-true way.to (length function.code) ends)
        | inr other ↦ inr (sym (ap (λ (b : Bool). b || is_place places way.to) other) ∙ within)
      ]

  -- each path ends at the end or at a place
  reached_place : (split : IsSplit unit index function) (before : List Stand) (at values : ℕ)
      → IsPath unit index function ((at, values) ∷ before) → IsPlaced split.places at
  reached_place split [] at values path =
      subst (IsPlaced split.places) (sym path.0)
      (elim (runs_end 0 split.places (length function.code) split.runs (omega arith)) [
        | inl ends ↦ inl ends
        | inr among ↦ inr among
      ])
  reached_place split (here ∷ before) at values path =
      let leads = path.0 in
      let within = leads.within in
      let among : is_place split.places here.0 ≡ true =
      elim (reached_place split before here.0 here.1 path.1) [
        | inl ends ↦ absurd (omega arith)
        | inr among ↦ among
      ] in
      subst (IsPlaced split.places) (sym leads.to) (elim leads.has [
        | inl on ↦
            subst (IsPlaced split.places) (sym (behind leads.step.next leads.step.on leads.way on))
            (after_place 0 split.places here.0 leads.step split.runs among leads.stands)
        | inr jump ↦
            jump_place split.places here.0 leads.step leads.way (is_here split.places here.0 among
            (is_aimed unit index function split.places) split.aimed) leads.stands jump
      ])

  -- the end and all places are within the code
  placed_within : (split : IsSplit unit index function) (at : ℕ) → IsPlaced split.places at
      → at ≤ length function.code
  placed_within split at (inl ends) = omega arith
  placed_within split at (inr among) =
      let below = place_below 0 split.places (length function.code) at split.runs among in
      omega arith

  -- a place that is reached before the end is among all places
  pub reached_among : (split : IsSplit unit index function) (at values : ℕ)
      → Reaches unit index function at values → at < length function.code
      → is_place split.places at ≡ true
  reached_among split at values reached within =
      elim (reached_place split reached.before at values reached.path) [
        | inl ends ↦ absurd (omega arith)
        | inr among ↦ among
      ]

  -- no jump from there strays, and each way leads to within the code or to its end
  pub stays_reached : (split : IsSplit unit index function) (at values : ℕ) (step : Step)
      → Reaches unit index function at values → at < length function.code
      → step_at unit index function at ≡ Ok step → step.strays ≡ false
  stays_reached split at values step reached within is =
      let aimed =
      is_here split.places at (reached_among split at values reached within)
      (is_aimed unit index function split.places) split.aimed in
      let target : has_target split.places (length function.code) (Ok step) ≡ true =
      sym (ap (has_target split.places (length function.code)) is) ∙ aimed in
      not-true step.strays (and_parts (not step.strays)
      (leads_within split.places (length function.code) step.jump) target).0

  -- each way from a place that is reached stays within the code
  pub ways_reached : (split : IsSplit unit index function) (at values : ℕ) (step : Step)
      → Reaches unit index function at values → at < length function.code
      → step_at unit index function at ≡ Ok step
      → (way : Way) → HasWay step way → way.to ≤ length function.code
  ways_reached split at values step reached within is way has =
      let among = reached_among split at values reached within in
      placed_within split way.to (elim has [
        | inl on ↦
            subst (IsPlaced split.places) (sym (behind step.next step.on way on))
            (after_place 0 split.places at step split.runs among is)
        | inr jump ↦
            jump_place split.places at step way (is_here split.places at among
            (is_aimed unit index function split.places) split.aimed) is jump
      ])

  -- an instruction stands where the code is reached before its end
  pub stands_reached : (split : IsSplit unit index function) (at values : ℕ)
      → Reaches unit index function at values → at < length function.code
      → (step : Step) × (step_at unit index function at ≡ Ok step)
  stands_reached split at values reached within =
      elim (reached_place split reached.before at values reached.path) [
        | inl ends ↦ absurd (omega arith)
        | inr among ↦ stands_at 0 split.places (length function.code) at split.runs among
      ]

-- ---- coming to a place

-- the greatest number so far is covered
room_old : (r v : ℕ) → r ≤ max r v
room_old r v = omega arith

-- so is a new one
room_new : (r v : ℕ) → v ≤ max r v
room_new r v = omega arith

-- more room alone changes nothing else
same_grows : (state : State) (room : ℕ) → state.room ≤ room
    → Grows state (record { depths = state.depths; pending = state.pending; room = room })
same_grows state room more = record {
  long = refl;
  kept = λ at values e. e;
  waits = λ stand among. among;
  fresh = λ at values e. inl e;
  room = more;
  fewer = omega arith;
  less = omega arith;
}

-- where a way ends, what was known stays known
grows_noted : (state : State) (to values : ℕ) (d : Option (Option ℕ)) → depth_of state to ≡ d
    → Grows state (noted state to values d)
grows_noted state to values None is =
    same_grows state (max state.room values) (room_old state.room values)
grows_noted state to values (Some (Some other)) is =
    same_grows state (max state.room values) (room_old state.room values)
grows_noted state to values (Some None) is =
    let within = slice_get_within state.depths to None is in
    let one = unseen-set state.depths to values is in
    record {
      long = length-set state.depths to (Some values);
      kept = λ at v e. elim (cases_eq at to) [
        | inl same ↦
            absurd (none_kept v (sym is ∙ ap (λ (n : ℕ). slice_get state.depths n) (sym same) ∙ e))
        | inr apart ↦ get_set_other state.depths to at (Some values) apart ∙ e
      ];
      waits = λ stand among. among_push stand (to, values) state.pending among;
      fresh = λ at v e. elim (cases_eq at to) [
        | inl same ↦
            let v_is : values ≡ v =
            kept_same values v (sym (get_set_same state.depths to (Some values) within)
            ∙ ap (λ (n : ℕ). slice_get (set state.depths to (Some values)) n) (sym same) ∙ e) in
            inr (subst (λ (s : Stand). Among s (state.pending ++ (to, values) ∷ []))
            (stands_same to at values v (sym same) v_is) (among_last (to, values) state.pending))
        | inr apart ↦ inl (sym (get_set_other state.depths to at (Some values) apart) ∙ e)
      ];
      room = room_old state.room values;
      fewer = omega arith;
      less = omega (arith, length-append state.pending ((to, values) ∷ []));
    }
  where
    none_kept : (v : ℕ) → Some None ≡ kept v → ⊥
    none_kept v e = cc

    stands_same : (m n v w : ℕ) → m ≡ n → v ≡ w → ◌≡◌ {A = Stand} (m, v) (n, w)
    stands_same m n v w first second = ap (λ (k : ℕ). (k, v)) first ∙ ap (λ (k : ℕ). (n, k)) second

-- where a way ends that agrees, it has arrived
arrived_noted : (state : State) (to values : ℕ) (d : Option (Option ℕ)) → depth_of state to ≡ d
    → Agrees state to values → Arrived (noted state to values d) to values
arrived_noted state to values None is agrees = record {
  covered = room_new state.room values;
  kept = λ within. absurd (past state.depths to within is);
}
  where
    past : (xs : List (Option ℕ)) (i : ℕ) → i < length xs → slice_get xs i ≡ None → ⊥
    past [] i within e = absurd (omega arith)
    past (x ∷ xs) zero within e = cc
    past (x ∷ xs) (suc i) within e = past xs i (omega arith) e
arrived_noted state to values (Some (Some other)) is agrees =
    record { covered = room_new state.room values; kept = λ within. is ∙ ap kept (agrees other is) }
arrived_noted state to values (Some None) is agrees =
    record {
      covered = room_new state.room values;
      kept =
          λ within.
          get_set_same state.depths to (Some values) (slice_get_within state.depths to None is);
    }

module _ (unit : Unit) (index : ℕ) (function : Code) where
  -- so many values may be there
  pub record CanArrive (state : State) (to values : ℕ) : Type 0 where
    pub reached : Reaches unit index function to values
    pub bound : values + unseen state.depths ≤ length function.code

  -- the greatest number is one that is reached
  room_reached : (state : State) (to values : ℕ) → Sane unit index function state
      → Reaches unit index function to values
      → (at : ℕ) × Reaches unit index function at (max state.room values)
  room_reached state to values sane reached = elim (cases_lt state.room values) [
    | inl less ↦
        let most : values ≡ max state.room values = omega arith in
        (to, subst (Reaches unit index function to) most reached)
    | inr more ↦
        let most : state.room ≡ max state.room values = omega arith in
        (sane.room_at, subst (Reaches unit index function sane.room_at) most sane.room_reached)
  ]

  -- a way to a place that has its number leaves all sound
  same_sane : (state : State) (to values : ℕ) → Sane unit index function state
      → CanArrive state to values → Sane unit index function
      (record { depths = state.depths; pending = state.pending; room = max state.room values })
  same_sane state to values sane can =
      let room = room_reached state to values sane can.reached in
      record {
        long = sane.long;
        reached = sane.reached;
        waiting = sane.waiting;
        bounded = sane.bounded;
        room_at = room.0;
        room_reached = room.1;
      }

  -- a way to a place that can be reached leaves all sound
  sane_noted : (state : State) (to values : ℕ) (d : Option (Option ℕ)) → depth_of state to ≡ d
      → Sane unit index function state → CanArrive state to values
      → Sane unit index function (noted state to values d)
  sane_noted state to values None is sane can = same_sane state to values sane can
  sane_noted state to values (Some (Some other)) is sane can = same_sane state to values sane can
  sane_noted state to values (Some None) is sane can =
      let within = slice_get_within state.depths to None is in
      let one = unseen-set state.depths to values is in
      let bound = can.bound in
      let room = room_reached state to values sane can.reached in
      let new : List (Option ℕ) = set state.depths to (Some values) in
      let there : slice_get new to ≡ kept values =
      get_set_same state.depths to (Some values) within in
      record {
        long = length-set state.depths to (Some values) ∙ sane.long;
        reached = λ at v e. elim (cases_eq at to) [
          | inl same ↦
              let v_is : values ≡ v =
              kept_same values v (sym there ∙ ap (slice_get new) (sym same) ∙ e) in
              subst (Reaches unit index function at) v_is
              (subst (λ (n : ℕ). Reaches unit index function n values) (sym same) can.reached)
          | inr apart ↦
              sane.reached at v (sym (get_set_other state.depths to at (Some values) apart) ∙ e)
        ];
        waiting = λ stand among. elim (among_pop stand (to, values) state.pending among) [
          | inl before ↦
              (grows_noted state to values (Some None) is).kept stand.0 stand.1
              (sane.waiting stand before)
          | inr last ↦ subst (λ (s : Stand). slice_get new s.0 ≡ kept s.1) (sym last) there
        ];
        bounded = λ at v e. elim (cases_eq at to) [
          | inl same ↦
              let v_is : values ≡ v =
              kept_same values v (sym there ∙ ap (slice_get new) (sym same) ∙ e) in
              omega arith
          | inr apart ↦
              let before =
              sane.bounded at v (sym (get_set_other state.depths to at (Some values) apart) ∙ e) in
              omega arith
        ];
        room_at = room.0;
        room_reached = room.1;
      }

  -- a way that is followed, if there is one
  pub sane_followed : (state : State) (left : ℕ) (way : Option Way) → Sane unit index function state
      → ((w : Way) → way ≡ Some w → CanArrive state w.to (left + w.gives))
      → Sane unit index function (followed state left way)
  sane_followed state left None sane can = sane
  sane_followed state left (Some way) sane can =
      sane_noted state way.to (left + way.gives) (depth_of state way.to) refl sane (can way refl)

  -- two numbers at one place
  pub conflict_fault : (state : State) (left : ℕ) (way : Option Way) (found : VerifyFault)
      → IsSplit unit index function → Sane unit index function state
      → ((w : Way) → way ≡ Some w → CanArrive state w.to (left + w.gives))
      → IsConflictOn state index left way found → IsFunctionFault unit index function found
  conflict_fault state left None found split sane can conflict = absurd conflict
  conflict_fault state left (Some way) found split sane can conflict =
      let inside = slice_get_within state.depths way.to (Some conflict.other) conflict.kept in
      let long = sane.long in
      let within : way.to < length function.code = omega arith in
      depths way.to (left + way.gives) conflict.other split within (can way refl).reached
      (sane.reached way.to conflict.other conflict.kept) conflict.apart conflict.fault

-- what was known stays known when a way is followed
pub grows_followed : (state : State) (left : ℕ) (way : Option Way)
    → Grows state (followed state left way)
grows_followed state left None = same_grows state state.room (omega arith)
grows_followed state left (Some way) =
    grows_noted state way.to (left + way.gives) (depth_of state way.to) refl

-- a way that was followed has arrived
arrived_followed : (state : State) (left : ℕ) (way : Option Way) → AgreesWith state left way
    → (w : Way) → way ≡ Some w → Arrived (followed state left way) w.to (left + w.gives)
arrived_followed state left None agrees w is = absurd cc
arrived_followed state left (Some way) agrees w is =
    subst (λ (v : Way). Arrived (followed state left (Some way)) v.to (left + v.gives))
    (some_same way w is)
    (arrived_noted state way.to (left + way.gives) (depth_of state way.to) refl agrees)

-- and stays so
arrived_grows : (old new : State) (to values : ℕ) → Grows old new → Arrived old to values
    → Arrived new to values
arrived_grows old new to values grows arrived =
    let covered = arrived.covered in
    let room = grows.room in
    let long = grows.long in
    record {
      covered = omega arith;
      kept = λ within. grows.kept to values (arrived.kept (omega arith));
    }

-- one growth after the other is one
grows_both : (a b c : State) → Grows a b → Grows b c → Grows a c
grows_both a b c one two =
    let room_one = one.room in
    let room_two = two.room in
    let fewer_one = one.fewer in
    let fewer_two = two.fewer in
    let less_one = one.less in
    let less_two = two.less in
    record {
      long = two.long ∙ one.long;
      kept = λ at values e. two.kept at values (one.kept at values e);
      waits = λ stand among. two.waits stand (one.waits stand among);
      fresh = λ at values e. elim (two.fresh at values e) [
        | inl before ↦ elim (one.fresh at values before) [
          | inl first ↦ inl first
          | inr among ↦ inr (two.waits (at, values) among)
        ]
        | inr among ↦ inr among
      ];
      room = omega arith;
      fewer = omega arith;
      less = omega arith;
    }

-- a number is kept only within the code
pub kept_within : (unit : Unit) (index : ℕ) (function : Code) (state : State) (at values : ℕ)
    → Sane unit index function state → depth_of state at ≡ Some (Some values)
    → at < length function.code
kept_within unit index function state at values sane is =
    let inside = slice_get_within state.depths at (Some values) is in
    let long = sane.long in
    omega arith

-- ---- a visit

-- what holds of a way that is there
if_some : (P : Way → Type 0) (way : Option Way) (w : Way) → IfSome way P → way ≡ Some w → P w
if_some P way w holds is = subst (λ (o : Option Way). IfSome o P) is holds

module _ (unit : Unit) (index : ℕ) (function : Code) (state : State) (at values : ℕ)
    (step : Step) where
  -- what is known when a place is visited
  pub record Here : Type 0 where
    pub split : IsSplit unit index function
    pub sane : Sane unit index function state
    pub kept_here : depth_of state at ≡ Some (Some values)
    pub stands : step_at unit index function at ≡ Ok step
    pub goes_on : GoesOn at (length function.code) step

  -- a place with a number is before the end
  pub within_here : Here → at < length function.code
  within_here here =
      let inside = slice_get_within state.depths at (Some values) here.kept_here in
      let long = here.sane.long in
      omega arith

  -- a place that is reached with too few values is a fault
  pub too_few : Here → values < step.takes
      → IsFunctionFault unit index function (fault.Underflow index at)
  too_few here few =
      underflow at values step here.split (within_here here)
      (here.sane.reached at values here.kept_here) here.stands few refl

  -- where a way leads, is reached
  way_reached : Here → step.takes ≤ values → (way : Way) → HasWay step way
      → Reaches unit index function way.to (values - step.takes + way.gives)
  way_reached here enough way has =
      let before = here.sane.reached at values here.kept_here in
      let leads : Leads unit index function (at, values) (way.to, values - step.takes + way.gives) =
      record {
        within = within_here here;
        step = step;
        stands = here.stands;
        enough = enough;
        way = way;
        has = has;
        to = refl;
        values = refl;
      } in
      record { before = (at, values) ∷ before.before; path = (leads, before.path) }

  -- a way gives one value at most
  gives_one : Here → (way : Way) → HasWay step way → way.gives ≤ 1
  gives_one here way (inl on) = if_some (λ way. way.gives ≤ 1) (way_on step) way here.goes_on.on on
  gives_one here way (inr jump) =
      if_some (λ way. way.gives ≤ 1) step.jump way here.goes_on.jump jump

  -- as many values may be there as there is code before it
  can_arrive : Here → step.takes ≤ values
      → (later : State) → unseen later.depths ≤ unseen state.depths → (way : Way) → HasWay step way
      → CanArrive unit index function later way.to (values - step.takes + way.gives)
  can_arrive here enough later fewer way has =
      let one = gives_one here way has in
      let bound = here.sane.bounded at values here.kept_here in
      record { reached = way_reached here enough way has; bound = omega arith }

  -- the values that are left
  abbrev left : ℕ
  left = values - step.takes

  -- the way on may be followed
  pub can_on : Here → step.takes ≤ values → (w : Way) → (way_on step) ≡ Some w
      → CanArrive unit index function state w.to (left + w.gives)
  can_on here enough w is = can_arrive here enough state (omega arith) w (inl is)

  -- so may the jump
  pub can_jump : Here → step.takes ≤ values → (w : Way) → step.jump ≡ Some w
      → CanArrive unit index function (followed state left (way_on step)) w.to (left + w.gives)
  can_jump here enough w is =
      can_arrive here enough (followed state left (way_on step))
      (grows_followed state left (way_on step)).fewer w (inr is)

  -- following the way on leaves all sound
  pub sane_on : Here → step.takes ≤ values
      → Sane unit index function (followed state left (way_on step))
  sane_on here enough =
      sane_followed unit index function state left (way_on step) here.sane (can_on here enough)

  -- both ways are followed
  pub visited : Here → step.takes ≤ values → AgreesWith state left (way_on step)
      → AgreesWith (followed state left (way_on step)) left step.jump
      → Visits unit index function state
      (followed (followed state left (way_on step)) left step.jump) at values
  visited here enough on jump =
      let middle : State = followed state left (way_on step) in
      let second = grows_followed middle left step.jump in
      record {
        sane =
            sane_followed unit index function middle left step.jump (sane_on here enough)
            (can_jump here enough);
        grows =
            grows_both state middle (followed middle left step.jump)
            (grows_followed state left (way_on step)) second;
        settled = record {
          step = step;
          stands = here.stands;
          enough = enough;
          each = λ way has. elim has [
            | inl is ↦
                arrived_grows middle (followed middle left step.jump) way.to
                (left + way.gives) second (arrived_followed state left (way_on step) on way is)
            | inr is ↦ arrived_followed middle left step.jump jump way is
          ];
        };
      }

-- ---- the loop

-- what is settled stays settled
settled_grows : (unit : Unit) (index : ℕ) (function : Code) (old new : State) (at values : ℕ)
    → Grows old new → Settled unit index function old at values
    → Settled unit index function new at values
settled_grows unit index function old new at values grows settled =
    record {
      step = settled.step;
      stands = settled.stands;
      enough = settled.enough;
      each =
          λ way has. arrived_grows old new way.to (values - settled.step.takes + way.gives) grows
          (settled.each way has);
    }

-- what is settled stays settled when a place is taken off
settled_popped : (unit : Unit) (index : ℕ) (function : Code) (state : State) (pending : List Stand)
    (at values : ℕ) → Settled unit index function state at values
    → Settled unit index function (without_last state pending) at values
settled_popped unit index function state pending at values settled = record {
  step = settled.step;
  stands = settled.stands;
  enough = settled.enough;
  each =
      λ way has. let arrived = settled.each way has in
      record { covered = arrived.covered; kept = arrived.kept };
}

module _ (unit : Unit) (index : ℕ) (function : Code) (state : State) (rest : List Stand)
    (at values : ℕ) where
  -- all stays sound when a place is taken off
  pub popped_sane : Works unit index function state → state.pending ≡ rest ++ (at, values) ∷ []
      → Sane unit index function (without_last state rest)
  popped_sane works pops =
      let sane = works.sane in
      record {
        long = sane.long;
        reached = sane.reached;
        waiting =
            λ stand among. sane.waiting stand
            (subst (Among stand) (sym pops) (among_push stand (at, values) rest among));
        bounded = sane.bounded;
        room_at = sane.room_at;
        room_reached = sane.room_reached;
      }

  -- the place that is taken off has its number
  pub popped_here : Works unit index function state → state.pending ≡ rest ++ (at, values) ∷ []
      → depth_of (without_last state rest) at ≡ Some (Some values)
  popped_here works pops =
      works.sane.waiting (at, values)
      (subst (Among (at, values)) (sym pops) (among_last (at, values) rest))

  -- a visit leaves each place pending or settled
  pub works_on : (new : State) → Works unit index function state
      → state.pending ≡ rest ++ (at, values) ∷ []
      → Visits unit index function (without_last state rest) new at values
      → Works unit index function new
  works_on new works pops visits = record {
    sane = visits.sane;
    start = λ some. visits.grows.kept 0 0 (works.start some);
    each = λ i v e. elim (visits.grows.fresh i v e) [
      | inr among ↦ inl among
      | inl before ↦ elim (works.each i v before) [
        | inr settled ↦
            inr (settled_grows unit index function (without_last state rest) new i v visits.grows
            (settled_popped unit index function state rest i v settled))
        | inl among ↦ elim (among_pop (i, v) (at, values) rest (subst (Among (i, v)) pops among)) [
          | inl still ↦ inl (visits.grows.waits (i, v) still)
          | inr this ↦
              inr (subst (λ (s : Stand). Settled unit index function new s.0 s.1)
              (sym this) visits.settled)
        ]
      ]
    ];
  }

-- ---- at the end

module _ (unit : Unit) (index : ℕ) (function : Code) (state : State)
    (works : Works unit index function state) (none : state.pending ≡ []) where
  -- at the end each place with a number is settled
  settled_at : (at values : ℕ) → depth_of state at ≡ Some (Some values)
      → Settled unit index function state at values
  settled_at at values e = elim (works.each at values e) [
    | inl among ↦ absurd (subst (Among (at, values)) none among)
    | inr settled ↦ settled
  ]

  -- each path ends where its number is kept
  covered : (before : List Stand) (at values : ℕ)
      → IsPath unit index function ((at, values) ∷ before)
      → (values ≤ state.room) × (at < length function.code → depth_of state at ≡ Some (Some values))
  covered [] at values path =
      let no_values = path.1 in (
        omega arith,
        λ within. subst (λ (n : ℕ). depth_of state n ≡ Some (Some values)) (sym path.0)
            (subst (λ (n : ℕ). depth_of state 0 ≡ Some (Some n)) (sym path.1)
            (works.start (subst (λ (n : ℕ). n < length function.code) path.0 within))),
      )
  covered (here ∷ before) at values path =
      let leads = path.0 in
      let known = (covered before here.0 here.1 path.1).1 leads.within in
      let settled = settled_at here.0 here.1 known in
      let same : leads.step ≡ settled.step =
      ok_same leads.step settled.step (sym leads.stands ∙ settled.stands) in
      let arrives : Arrived state leads.way.to (here.1 - settled.step.takes + leads.way.gives) =
      settled.each leads.way (subst (λ (s : Step). HasWay s leads.way) same leads.has) in
      let values_is : here.1 - settled.step.takes + leads.way.gives ≡ values =
      ap (λ (s : Step). here.1 - s.takes + leads.way.gives) (sym same) ∙ sym leads.values in
      let there : Arrived state at values =
      subst (Arrived state at) values_is (subst (λ (n : ℕ).
      Arrived state n (here.1 - settled.step.takes + leads.way.gives)) (sym leads.to) arrives) in
      let long = works.sane.long in
      (there.covered, λ within. there.kept (omega arith))

  -- at the end the function is sound
  pub sound_at_end : IsSplit unit index function → IsSound unit index function
  sound_at_end split = record {
    split = split;
    one = λ at some other within first second.
        kept_same some other (sym ((covered first.before at some first.path).1 within)
        ∙ (covered second.before at other second.path).1 within);
    enough = λ at values step within reached stands.
        let settled =
        settled_at at values ((covered reached.before at values reached.path).1 within) in
        let same : settled.step ≡ step = ok_same settled.step step (sym settled.stands ∙ stands) in
        subst (λ (s : Step). s.takes ≤ values) same settled.enough;
  }

  -- and the room is the greatest number
  pub room_at_end : IsRoom unit index function state.room
  room_at_end = record {
    covers = λ at values reached. (covered reached.before at values reached.path).0;
    at = works.sane.room_at;
    reached = works.sane.room_reached;
  }

-- ---- the beginning

-- the beginning is reached with no values
pub starts : (unit : Unit) (index : ℕ) (function : Code) → Reaches unit index function 0 0
starts unit index function = record { before = []; path = (refl, refl) }

-- no number
abbrev pub none_yet : Option ℕ
none_yet = None

-- no place has a number at first
get_none : (count i values : ℕ) → slice_get (replicate count none_yet) i ≡ kept values → ⊥
get_none zero i values e = cc
get_none (suc count) zero values e = cc
get_none (suc count) (suc i) values e = get_none count i values e

-- all are without one
unseen-replicate : (count : ℕ) → unseen (replicate count none_yet) ≡ count
unseen-replicate zero = refl
unseen-replicate (suc count) = ap (λ (n : ℕ). 1 + n) (unseen-replicate count) ∙ omega arith

-- only the beginning is known, and waits
abbrev pub first_state : ℕ → State
first_state count =
    record { depths = set (replicate count None) 0 (Some 0); pending = (0, 0) ∷ []; room = 0 }

-- the beginning is one of the places
get_first : (count : ℕ) → 0 < count → slice_get (replicate count none_yet) 0 ≡ Some None
get_first zero some = absurd (omega arith)
get_first (suc count) some = refl

-- where there is code the work begins so
pub works_first : (unit : Unit) (index : ℕ) (function : Code) → 0 < length function.code
    → Works unit index function (first_state (length function.code))
works_first unit index function some =
    let count : ℕ = length function.code in
    let plain : List (Option ℕ) = replicate count none_yet in
    let inside : 0 < length plain = omega (arith, length-replicate count none_yet) in
    let there : slice_get (set plain 0 (Some 0)) 0 ≡ kept 0 =
    get_set_same plain 0 (Some 0) inside in
    let one = unseen-set plain 0 0 (get_first count some) in
    let all = unseen-replicate count in
    record {
      sane = record {
        long = length-set plain 0 (Some 0) ∙ length-replicate count none_yet;
        reached = λ at v e. elim (cases_eq at 0) [
          | inl same ↦
              subst (Reaches unit index function at)
              (kept_same 0 v (sym there ∙ ap (slice_get (set plain 0 (Some 0))) (sym same) ∙ e))
              (subst (λ (n : ℕ). Reaches unit index function n 0) (sym same)
              (starts unit index function))
          | inr apart ↦
              absurd (get_none count at v (sym (get_set_other plain 0 at (Some 0) apart) ∙ e))
        ];
        waiting = λ stand among. elim among [
          | inl same ↦
              subst (λ (s : Stand). slice_get (set plain 0 (Some 0)) s.0 ≡ kept s.1)
              (sym same) there
          | inr none ↦ absurd none
        ];
        bounded = λ at v e. elim (cases_eq at 0) [
          | inl same ↦
              let v_is : 0 ≡ v =
              kept_same 0 v (sym there ∙ ap (slice_get (set plain 0 (Some 0))) (sym same) ∙ e) in
              omega arith
          | inr apart ↦
              absurd (get_none count at v (sym (get_set_other plain 0 at (Some 0) apart) ∙ e))
        ];
        room_at = 0;
        room_reached = starts unit index function;
      };
      start = λ more. there;
      each = λ at v e. elim (cases_eq at 0) [
        | inl same ↦
            inl (inl (first_stand at v same
            (kept_same 0 v (sym there ∙ ap (slice_get (set plain 0 (Some 0))) (sym same) ∙ e))))
        | inr apart ↦
            absurd (get_none count at v (sym (get_set_other plain 0 at (Some 0) apart) ∙ e))
      ];
    }
  where
    first_stand : (at v : ℕ) → at ≡ 0 → 0 ≡ v → ◌≡◌ {A = Stand} (at, v) (0, 0)
    first_stand at v first second =
        ap (λ (n : ℕ). (n, v)) first ∙ ap (λ (n : ℕ). (0, n)) (sym second)
