-- What steps leave to do is what was to do.
use Rattle.std.proofs.Common.{◌≡◌, ℕ, zero, suc, ◌-◌, ◌<◌, ◌≤◌, Bool, true, false, List, [], ◌∷◌}
use Rattle.std.proofs.Common.{length, refl, sym, ap, subst, ◌∙◌, arith, Vec}
use Rattle.std.specs.declared.alloc.Global.{Global}
use Rattle.wap_base.specs.declared.limits.Limits.{Limits}
use Rattle.wap_value.specs.declared.value.Value.{Value}
use Rattle.wap_value.specs.declared.value.Value.TheVariants.{Str}
use Rattle.wap_execution.specs.declared.fatal.Fatal.TheVariants.{Budget}
use Rattle.wap_execution.specs.Frames.{Function, Frame, code_of}
use Rattle.wap_execution.specs.Outcomes.{fatal, Hosting, Setting}
use Rattle.wap_execution.specs.Running.{ended, at_place, finished}
use Rattle.wap_machine.specs.declared.next.Callee.{Callee}
use Rattle.wap_machine.specs.declared.next.Next.{Next}
use Rattle.wap_machine.specs.declared.next.Next.TheVariants as next
use Rattle.wap_machine.specs.declared.machine.Outcome.TheVariants.{Done, Exited, Fatal, Asks}
use Rattle.wap_machine.specs.declared.machine.Step.{Step}
use Rattle.wap_machine.specs.declared.machine.Step.TheVariants.{Goes, Ends}
use Rattle.wap_machine.specs.declared.machine.Wanted.TheVariants.{Nothing, Turn, Call}
use Rattle.wap_machine.specs.Seen.{called_of}
use Rattle.wap_machine.specs.Stacks.{Stack, stack}
use Rattle.wap_execution.specs.laws.Settings.{uncounted}
use Rattle.wap_machine.specs.Standing.{CanCall, Onwards}
use Rattle.wap_machine.specs.Doing.{AreFew, Acts}
use Rattle.wap_machine.specs.inside.Weights.{weight, heavy}
use Rattle.wap_machine.specs.inside.Efforts.{effort, GoesBelow, IsLight}
use Rattle.wap_machine.specs.inside.Advances.{gives, wanted_for, HasStepped, at_end, done}
use Rattle.wap_machine.specs.inside.MachineSteps.{rest, calls_from, CanCallFrom}
use Rattle.wap_machine.specs.inside.MachineSteps.{LimitsStay, IsWithoutBudget, Wants}
use Rattle.wap_execution.proofs.LawsLemmas.FrameLaws.{ends_whole, returns_value, ends_fatally}
use Rattle.wap_execution.proofs.LawsLemmas.FrameLaws.{goes_onward, back_without, goes_back}
use Rattle.wap_execution.proofs.LawsLemmas.FrameLaws.{calls_without, makes_call}
use Rattle.wap_machine.proofs.CallLaws.{gives_same}
use Rattle.wap_machine.proofs.Ready.{stands_for, code_is}
use Rattle.wap_machine.proofs.Weighing.{light}

-- ---- what was wanted

nothing_is : (some other : Step) → Nothing some ≡ Nothing other → some ≡ other
nothing_is some other e = cc

turn_is : (some other : Stack) → Turn some ≡ Turn other → some ≡ other
turn_is some other e = cc

-- an instruction that goes on stays in the code
pub stays_inside : (string : ℕ) (frame new : Frame) (n : Next) (coming : ℕ)
    → Acts string frame new n
    → Onwards frame.place (at_place frame.function new.place new.variables new.operands) coming
    → new.place ≤ length (code_of frame.function)
stays_inside string frame new n coming acts onwards =
    subst (λ (l : List ℕ). new.place ≤ length l) (sym
    (code_is (at_place frame.function new.place new.variables new.operands) coming onwards.stands))
    onwards.stands.within

module _ {S : Type 0} (limits : Limits) (meaning : Hosting S) where
  abbrev set : Setting S
  set = uncounted limits meaning

  module _ (turns : ℕ) (state : S) where
    -- nothing was wanted
    pub nothing_goes : (frames : List Frame) (step : Step) → HasStepped limits frames (Nothing step)
        → finished set frames turns state ≡ rest set step turns state
    nothing_goes frames step (at_end frame outer are place goes) =
        ap (λ (l : List Frame). finished set l turns state) are
        ∙ ends_whole set frame outer turns state place
        ∙ gives_same set limits outer (Str []) turns state
        ∙ ap (λ (s : Step). rest set s turns state)
        (sym (nothing_is step (gives limits outer (Str [])) goes))
    nothing_goes frames step (done frame new outer what are stacked within acts goes) =
        ap (λ (l : List Frame). finished set l turns state) are ∙ by what acts goes
      where
        by : (n : Next) → Acts limits.string frame new n
            → Nothing step ≡ wanted_for limits new outer n
            → finished set (frame ∷ outer) turns state ≡ rest set step turns state
        by next.Onward acts goes =
            goes_onward set frame outer turns state within new acts.does.same acts.does.is
            ∙ ap (λ (s : Step). rest set s turns state)
            (sym (nothing_is step (Goes (stack limits (new ∷ outer))) goes))
        by next.Back acts goes = absurd (cc goes)
        by (next.Call callee arguments) acts goes = absurd (cc goes)
        by (next.Return v) acts goes =
            returns_value set frame outer turns state within v acts.does.is
            ∙ gives_same set limits outer v turns state
            ∙ ap (λ (s : Step). rest set s turns state)
            (sym (nothing_is step (gives limits outer v) goes))
        by (next.End why) acts goes =
            ends_fatally set frame outer turns state within why acts.does.is
            ∙ ap (λ (s : Step). rest set s turns state)
            (sym (nothing_is step (Ends (Fatal why)) goes))

    -- a turn was wanted, and there is none
    pub turn_wanting : (frames : List Frame) (machine : Stack)
        → HasStepped limits frames (Turn machine)
        → turns ≡ 0 → finished set frames turns state ≡ ended (fatal Budget) 0 state
    turn_wanting frames machine (at_end frame outer are place goes) none = absurd (cc goes)
    turn_wanting frames machine (done frame new outer what are stacked within acts goes) none =
        ap (λ (l : List Frame). finished set l turns state) are ∙ by what acts goes
      where
        by : (n : Next) → Acts limits.string frame new n
            → Turn machine ≡ wanted_for limits new outer n
            → finished set (frame ∷ outer) turns state ≡ ended (fatal Budget) 0 state
        by next.Onward acts goes = absurd (cc goes)
        by next.Back acts goes =
            back_without set frame outer turns state within new acts.does.same acts.does.is none
        by (next.Call callee arguments) acts goes = absurd (cc goes)
        by (next.Return v) acts goes = absurd (cc goes)
        by (next.End why) acts goes = absurd (cc goes)

    pub turn_goes : (frames : List Frame) (machine : Stack) (left : ℕ)
        → HasStepped limits frames (Turn machine) → turns ≡ suc left
        → finished set frames turns state ≡ finished set machine.frames left state
    turn_goes frames machine left (at_end frame outer are place goes) some = absurd (cc goes)
    turn_goes frames machine left (done frame new outer what are stacked within acts goes) some =
        ap (λ (l : List Frame). finished set l turns state) are ∙ by what acts goes
      where
        by : (n : Next) → Acts limits.string frame new n
            → Turn machine ≡ wanted_for limits new outer n
            → finished set (frame ∷ outer) turns state ≡ finished set machine.frames left state
        by next.Onward acts goes = absurd (cc goes)
        by next.Back acts goes =
            goes_back set frame outer turns state within new acts.does.same acts.does.is left some
            ∙ ap (λ (m : Stack). finished set m.frames left state)
            (sym (turn_is machine (stack limits (new ∷ outer)) goes))
        by (next.Call callee arguments) acts goes = absurd (cc goes)
        by (next.Return v) acts goes = absurd (cc goes)
        by (next.End why) acts goes = absurd (cc goes)

    pub call_wanting : (frames : List Frame) (waiting : Stack) (callee : Callee)
        (arguments : Vec Value Global) → HasStepped limits frames (Call waiting callee arguments)
        → turns ≡ 0 → finished set frames turns state ≡ ended (fatal Budget) 0 state
    call_wanting frames waiting callee arguments (at_end frame outer are place goes) none =
        absurd (cc goes)
    call_wanting frames waiting callee arguments
        (done frame new outer what are stacked within acts goes) none =
        ap (λ (l : List Frame). finished set l turns state) are ∙ by what acts goes
      where
        by : (n : Next) → Acts limits.string frame new n
            → Call waiting callee arguments ≡ wanted_for limits new outer n
            → finished set (frame ∷ outer) turns state ≡ ended (fatal Budget) 0 state
        by next.Onward acts goes = absurd (cc goes)
        by next.Back acts goes = absurd (cc goes)
        by (next.Call other more) acts goes =
            calls_without set frame outer turns state within new acts.does.same
            (called_of other) more.items acts.does.is none
        by (next.Return v) acts goes = absurd (cc goes)
        by (next.End why) acts goes = absurd (cc goes)

    pub call_goes : (frames : List Frame) (waiting : Stack) (callee : Callee)
        (arguments : Vec Value Global) (left : ℕ)
        → HasStepped limits frames (Call waiting callee arguments) → turns ≡ suc left
        → finished set frames turns state
        ≡ calls_from set waiting.frames (called_of callee) arguments.items left state
    call_goes frames waiting callee arguments left (at_end frame outer are place goes) some =
        absurd (cc goes)
    call_goes frames waiting callee arguments left
        (done frame new outer what are stacked within acts goes) some =
        ap (λ (l : List Frame). finished set l turns state) are ∙ by what acts goes
      where
        same_call : (a b : Stack) (x y : Callee) (u v : Vec Value Global) → Call a x u ≡ Call b y v
            → calls_from set a.frames (called_of x) u.items left state
            ≡ calls_from set b.frames (called_of y) v.items left state
        same_call a b x y u v e =
            let frames : a ≡ b = cc in
            let callees : x ≡ y = cc in
            let all : u ≡ v = cc in
            cc

        by : (n : Next) → Acts limits.string frame new n
            → Call waiting callee arguments ≡ wanted_for limits new outer n
            → finished set (frame ∷ outer) turns state
            ≡ calls_from set waiting.frames (called_of callee) arguments.items left state
        by next.Onward acts goes = absurd (cc goes)
        by next.Back acts goes = absurd (cc goes)
        by (next.Call other more) acts goes =
            makes_call set frame outer turns state within new acts.does.same
            (called_of other) more.items acts.does.is left some
            ∙ sym (same_call waiting (stack limits (new ∷ outer)) callee other arguments more goes)
        by (next.Return v) acts goes = absurd (cc goes)
        by (next.End why) acts goes = absurd (cc goes)

-- ---- what a step keeps

pub record Kept (limits : Limits) (frames : List Frame) (step : Step) : Type 0 where
  pub stay : LimitsStay limits step
  pub no_want : IsWithoutBudget step
  pub falls : (turns : ℕ) → GoesBelow (effort turns frames) turns step

gives_kept : (limits : Limits) (frame : Frame) (outer : List Frame) (v : Value)
    → Kept limits (frame ∷ outer) (gives limits outer v)
gives_kept limits frame [] v = record { stay = tt; no_want = tt; falls = λ turns. tt }
gives_kept limits frame (next ∷ outer) v =
    record { stay = refl; no_want = tt; falls = λ turns. omega arith }

pub nothing_kept : (limits : Limits) (frames : List Frame) (step : Step)
    → HasStepped limits frames (Nothing step) → Kept limits frames step
nothing_kept limits frames step (at_end frame outer are place goes) =
    subst (λ (l : List Frame). Kept limits l step) (sym are)
    (subst (λ (s : Step). Kept limits (frame ∷ outer) s) (sym
    (nothing_is step (gives limits outer (Str [])) goes)) (gives_kept limits frame outer (Str [])))
nothing_kept limits frames step (done frame new outer what are stacked within acts goes) =
    subst (λ (l : List Frame). Kept limits l step) (sym are) (by what acts goes)
  where
    by : (n : Next) → Acts limits.string frame new n → Nothing step ≡ wanted_for limits new outer n
        → Kept limits (frame ∷ outer) step
    by next.Onward acts goes =
        subst (λ (s : Step). Kept limits (frame ∷ outer) s)
        (sym (nothing_is step (Goes (stack limits (new ∷ outer))) goes))
        (record {
          stay = refl;
          no_want = tt;
          falls = λ turns.
              let further : frame.place < new.place = acts.fits.further in
              let inside = stays_inside limits.string frame new next.Onward 0 acts acts.fits in
              let same : length (code_of new.function) ≡ length (code_of frame.function) =
              ap (λ (f : Function). length (code_of f)) acts.does.same in
              omega arith;
        })
    by next.Back acts goes = absurd (cc goes)
    by (next.Call callee arguments) acts goes = absurd (cc goes)
    by (next.Return v) acts goes =
        subst (λ (s : Step). Kept limits (frame ∷ outer) s)
        (sym (nothing_is step (gives limits outer v) goes)) (gives_kept limits frame outer v)
    by (next.End why) acts goes =
        subst (λ (s : Step). Kept limits (frame ∷ outer) s)
        (sym (nothing_is step (Ends (Fatal why)) goes))
        (record { stay = tt; no_want = acts.does.in_order; falls = λ turns. tt })

pub record Turned (limits : Limits) (machine : Stack) : Type 0 where
  pub stay : machine.limits ≡ limits
  pub light : weight machine.frames < heavy

pub turn_kept : (limits : Limits) (frames : List Frame) (machine : Stack)
    → HasStepped limits frames (Turn machine) → Turned limits machine
turn_kept limits frames machine (at_end frame outer are place goes) = absurd (cc goes)
turn_kept limits frames machine (done frame new outer what are stacked within acts goes) =
    by what acts goes
  where
    by : (n : Next) → Acts limits.string frame new n → Turn machine ≡ wanted_for limits new outer n
        → Turned limits machine
    by next.Onward acts goes = absurd (cc goes)
    by next.Back acts goes =
        subst (λ (m : Stack). Turned limits m)
        (sym (turn_is machine (stack limits (new ∷ outer)) goes))
        (record {
          stay = refl;
          light =
              light new 0 outer
              (stands_for limits.string frame new next.Back acts) stacked.others stacked.few;
        })
    by (next.Call callee arguments) acts goes = absurd (cc goes)
    by (next.Return v) acts goes = absurd (cc goes)
    by (next.End why) acts goes = absurd (cc goes)

pub record CanAsk (limits : Limits) (waiting : Stack) (callee : Callee)
    (arguments : List Value) : Type 0 where
  pub stay : waiting.limits ≡ limits
  pub few : AreFew callee (length arguments)
  pub can : CanCallFrom waiting.frames (called_of callee) arguments

pub call_kept : (limits : Limits) (frames : List Frame) (waiting : Stack) (callee : Callee)
    (arguments : Vec Value Global) → HasStepped limits frames (Call waiting callee arguments)
    → CanAsk limits waiting callee arguments.items
call_kept limits frames waiting callee arguments (at_end frame outer are place goes) =
    absurd (cc goes)
call_kept limits frames waiting callee arguments
    (done frame new outer what are stacked within acts goes) = by what acts goes
  where
    same_ask : (a b : Stack) (x y : Callee) (u v : Vec Value Global) → Call a x u ≡ Call b y v
        → CanAsk limits b y v.items → CanAsk limits a x u.items
    same_ask a b x y u v e can =
        let stacks : a ≡ b = cc in
        let callees : x ≡ y = cc in
        let all : u ≡ v = cc in
        subst (λ (s : Stack). CanAsk limits s x u.items) (sym stacks)
        (subst (λ (k : Callee). CanAsk limits b k u.items) (sym callees)
        (subst (λ (l : Vec Value Global). CanAsk limits b y l.items) (sym all) can))

    by : (n : Next) → Acts limits.string frame new n
        → Call waiting callee arguments ≡ wanted_for limits new outer n
        → CanAsk limits waiting callee arguments.items
    by next.Onward acts goes = absurd (cc goes)
    by next.Back acts goes = absurd (cc goes)
    by (next.Call other more) acts goes =
        same_ask waiting (stack limits (new ∷ outer)) callee other arguments more goes
        (record {
          stay = refl;
          few = acts.does.in_order;
          can =
              subst (λ (f : Function). CanCall f (called_of other) more.items)
              (sym acts.does.same) acts.fits.1;
        })
    by (next.Return v) acts goes = absurd (cc goes)
    by (next.End why) acts goes = absurd (cc goes)

-- a turn outweighs all instructions between turns
pub light_below : (turns left : ℕ) (frames : List Frame) (step : Step) → 0 < turns
    → left ≡ turns - 1 → IsLight step → GoesBelow (effort turns frames) left step
light_below turns left frames (Goes machine) some fewer is_light =
    let less : weight machine.frames < heavy = is_light in
    omega arith
light_below turns left frames (Ends outcome) some fewer is_light = tt

-- a step that doesn't end because turns ran out doesn't do so where turns are left
pub never_wants : (turns : ℕ) (step : Step) → IsWithoutBudget step → Wants turns step
never_wants turns (Goes machine) no_want = tt
never_wants turns (Ends (Done v)) no_want = tt
never_wants turns (Ends (Exited v)) no_want = tt
never_wants turns (Ends (Fatal why)) no_want = λ budget. absurd (no_want budget)
never_wants turns (Ends (Asks dialog waiting)) no_want = tt

-- no turn was left where none was taken
pub none_left : (taken : Bool) (turns : ℕ) → (0 < turns → taken ≡ true) → taken ≡ false → turns ≡ 0
none_left taken zero some not = refl
none_left taken (suc more) some not = absurd (let yes = some (omega arith) in cc (yes, not))
