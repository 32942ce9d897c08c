-- Rounds of a frame change nothing of what there is to do.
use Rattle.std.proofs.Common.{◌≡◌, ℕ, ◌-◌, ◌<◌, List, ◌∷◌, refl, sym, ap, subst, ◌∙◌, arith}
use Rattle.wap_base.specs.declared.limits.Limits.{Limits}
use Rattle.wap_execution.specs.Frames.{Frame}
use Rattle.wap_execution.specs.Outcomes.{Hosting}
use Rattle.wap_execution.specs.Running.{finished}
use Rattle.wap_execution.specs.laws.Settings.{uncounted}
use Rattle.wap_machine.specs.declared.next.Next.{Next}
use Rattle.wap_machine.specs.declared.next.Next.TheVariants.{Back}
use Rattle.wap_machine.specs.declared.machine.Wanted.{Wanted}
use Rattle.wap_machine.specs.Doing.{EndsOrActs, has_ended, has_acted}
use Rattle.wap_machine.specs.Stacks.{stack}
use Rattle.wap_machine.specs.Standing.{Stands}
use Rattle.wap_machine.specs.inside.Advances.{wanted_for, HasStepped, at_end, done, IsAdvanced}
use Rattle.wap_machine.specs.inside.Goings.{HasGone}
use Rattle.wap_machine.specs.inside.Stacked.{AreStacked}
use Rattle.wap_machine.specs.inside.Rounds.{Rounds, HasRounded, ComesTo}
use Rattle.wap_machine.specs.inside.Weights.{weight, heavy}
use Rattle.wap_machine.proofs.GoingLaws.{turn_told, turn_kept}

-- ---- what is wanted after instructions of the innermost frame

last_step : (limits : Limits) (now new : Frame) (outer : List Frame) (next : Next)
    → AreStacked limits now 0 outer → EndsOrActs limits.string now new next
    → HasStepped limits (now ∷ outer) (wanted_for limits new outer next)
last_step limits now new outer next stacked (has_ended place gives_empty) =
    at_end now outer refl place (ap (λ (n : Next). wanted_for limits new outer n) gives_empty)
last_step limits now new outer next stacked (has_acted within acts) =
    done now new outer next refl stacked within acts refl

-- another frame of the function in the place of the innermost
stacked_now : (limits : Limits) (first now : Frame) (outer : List Frame)
    → AreStacked limits first 0 outer → Stands now 0 → AreStacked limits now 0 outer
stacked_now limits first now outer stacked stands = record {
  limits_fit = stacked.limits_fit;
  innermost = stands;
  others = stacked.others;
  few = stacked.few;
}

gone_advances : (limits : Limits) (now new : Frame) (outer : List Frame) (next : Next)
    → AreStacked limits now 0 outer → HasGone limits.string now new next
    → IsAdvanced limits (now ∷ outer) (wanted_for limits new outer next)
gone_advances limits now new outer next stacked gone = record {
  frame = now;
  outer = outer;
  are = refl;
  now = gone.now;
  passed = gone.passed;
  last =
      last_step limits gone.now new outer next
      (stacked_now limits now gone.now outer stacked gone.passed.stands) gone.last;
}

-- ---- rounds

last_same : (string : ℕ) (now new : Frame) → EndsOrActs string now new Back
    → new.function ≡ now.function
last_same string now new (has_ended place gives_empty) = absurd (cc gives_empty)
last_same string now new (has_acted within acts) = acts.does.same

module _ {S : Type 0} (meaning : Hosting S) (limits : Limits) (turns : ℕ) (first : Frame) where
  pub rounds_begin : Stands first 0 → Rounds meaning limits turns turns first first
  rounds_begin stands = record {
    same = refl;
    stands = stands;
    told = λ outer state stacked. refl;
    falls = λ outer stacked. omega arith;
  }

  -- one more jump back, whose turn was taken
  pub rounds_more : (middle left : ℕ) (now new : Frame)
      → Rounds meaning limits turns middle first now → HasGone limits.string now new Back
      → Stands new 0 → 0 < middle → left ≡ middle - 1
      → Rounds meaning limits turns left first new
  rounds_more middle left now new rounds gone stands some fewer =
      let advanced = λ (outer : List Frame) (stacked : AreStacked limits first 0 outer).
      gone_advances limits now new outer Back
      (stacked_now limits first now outer stacked rounds.stands) gone in
      record {
        same = last_same limits.string gone.now new gone.last ∙ gone.passed.same ∙ rounds.same;
        stands = stands;
        told = λ outer state stacked.
            rounds.told outer state stacked
            ∙ turn_told limits meaning (now ∷ outer) middle state (stack limits (new ∷ outer)) left
            state (advanced outer stacked) some fewer refl;
        falls = λ outer stacked.
            let before = rounds.falls outer stacked in
            let light : weight (new ∷ outer) < heavy =
            (turn_kept limits (now ∷ outer) (stack limits (new ∷ outer))
            (advanced outer stacked)).light in
            omega arith;
      }

-- ---- what a machine comes to

pub rounded_comes : {S : Type 0} {meaning : Hosting S} {turns left : ℕ} (limits : Limits)
    (frame after : Frame) (outer : List Frame) (next : Next) (wanted : Wanted)
    → AreStacked limits frame 0 outer → HasRounded meaning limits turns left frame after next
    → wanted ≡ wanted_for limits after outer next
    → ComesTo meaning limits turns left (frame ∷ outer) wanted
rounded_comes limits frame after outer next wanted stacked rounded is = record {
  middle = rounded.now ∷ outer;
  told = λ state. rounded.rounds.told outer state stacked;
  falls = rounded.rounds.falls outer stacked;
  advanced =
      subst (IsAdvanced limits (rounded.now ∷ outer)) (sym is)
      (gone_advances limits rounded.now after outer next
      (stacked_now limits frame rounded.now outer stacked rounded.rounds.stands) rounded.gone);
}

module _ {S : Type 0} {meaning : Hosting S} {limits : Limits} {turns left : ℕ}
    {frames : List Frame} where
  pub wants : {some other : Wanted} → some ≡ other → ComesTo meaning limits turns left frames some
      → ComesTo meaning limits turns left frames other
  wants same comes = subst (λ (w : Wanted). ComesTo meaning limits turns left frames w) same comes

  -- turns change no state
  pub came : {wanted : Wanted} (comes : ComesTo meaning limits turns left frames wanted)
      {old new : S} → new ≡ old → finished (uncounted limits meaning) frames turns old
      ≡ finished (uncounted limits meaning) comes.middle left new
  came comes {old} {new} same =
      comes.told old
      ∙ ap (λ (s : S). finished (uncounted limits meaning) comes.middle left s) (sym same)
