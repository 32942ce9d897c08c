-- Instructions that go on further on change nothing of what there is to do.
use Rattle.std.proofs.Common.{◌≡◌, ℕ, ◌-◌, ◌<◌, ◌≤◌, List, [], ◌∷◌, length, Option, Vec}
use Rattle.std.proofs.Common.{sym, ap, subst, ◌∙◌, arith}
use Rattle.std.specs.declared.alloc.Global.{Global}
use Rattle.wap_base.specs.declared.limits.Limits.{Limits}
use Rattle.wap_value.specs.declared.value.Value.{Value}
use Rattle.wap_execution.specs.declared.fatal.Fatal.TheVariants.{Budget}
use Rattle.wap_execution.specs.Frames.{Function, Frame, code_of}
use Rattle.wap_execution.specs.Outcomes.{fatal, Ended, Hosting, Setting}
use Rattle.wap_execution.specs.Running.{ended, finished}
use Rattle.wap_execution.specs.laws.Settings.{uncounted}
use Rattle.wap_execution.proofs.LawsLemmas.FrameLaws.{goes_onward}
use Rattle.wap_machine.specs.declared.next.Callee.{Callee}
use Rattle.wap_machine.specs.Seen.{called_of}
use Rattle.wap_machine.specs.declared.next.Next.TheVariants.{Onward}
use Rattle.wap_machine.specs.Doing.{Acts, EndsOrActs, has_ended, has_acted}
use Rattle.wap_machine.proofs.Ready.{stands_for}
use Rattle.wap_machine.specs.declared.machine.Step.{Step}
use Rattle.wap_machine.specs.declared.machine.Step.TheVariants.{Goes, Ends}
use Rattle.wap_machine.specs.declared.machine.Outcome.TheVariants.{Fatal}
use Rattle.wap_machine.specs.declared.machine.Wanted.{Wanted}
use Rattle.wap_machine.specs.declared.machine.Wanted.TheVariants.{Nothing, Turn, Call}
use Rattle.wap_machine.specs.Stacks.{Stack}
use Rattle.wap_machine.specs.Hosts.{Fetches}
use Rattle.wap_machine.specs.inside.Weights.{weight}
use Rattle.wap_machine.specs.inside.Efforts.{effort, GoesBelow}
use Rattle.wap_machine.specs.inside.Goings.{GoesOn, HasPassed, Passed}
use Rattle.wap_machine.specs.inside.Advances.{IsAdvanced}
use Rattle.wap_machine.specs.inside.MachineSteps.{rest, calls_from}
use Rattle.wap_machine.proofs.StepLaws.{Kept, Turned, CanAsk, nothing_goes, turn_goes, turn_wanting}
use Rattle.wap_machine.proofs.StepLaws.{call_goes, call_wanting, nothing_kept as last_nothing_kept}
use Rattle.wap_machine.proofs.StepLaws.{turn_kept as last_turn_kept, call_kept as last_call_kept}

-- where a frame goes on, an instruction was done
pub went_on : (string : ℕ) (now after : Frame) → EndsOrActs string now after Onward
    → GoesOn string now after
went_on string now after (has_acted within acts) = record { within = within; acts = acts }
went_on string now after (has_ended place gives_empty) = absurd (cc gives_empty)

-- one more instruction
pub passed_more : (string : ℕ) (first now after : Frame) → Passed string first now
    → now.place < length (code_of now.function)
    → Acts string now after Onward → Passed string first after
passed_more string first now after passed within acts = record {
  frames = now ∷ passed.frames;
  are = (record { within = within; acts = acts }, passed.are);
  same = acts.does.same ∙ passed.same;
  stands = stands_for string now after Onward acts;
}

-- fewer bytes are left
pub on_falls : (string : ℕ) (now after : Frame) → Acts string now after Onward
    → now.place < length (code_of now.function)
    → length (code_of after.function) - after.place < length (code_of now.function) - now.place
on_falls string now after acts within =
    let further : now.place < after.place = acts.fits.further in
    let same : length (code_of after.function) ≡ length (code_of now.function) =
    ap (λ (f : Function). length (code_of f)) acts.does.same in
    omega arith

left_falls : (string : ℕ) (first : Frame) (frames : List Frame) (now : Frame)
    → HasPassed string first frames now
    → length (code_of now.function) - now.place ≤ length (code_of first.function) - first.place
left_falls string first [] now are =
    subst (λ (f : Frame). length (code_of f.function) - f.place
    ≤ length (code_of first.function) - first.place) (sym are) (omega arith)
left_falls string first (frame ∷ frames) now are =
    let one = on_falls string frame now are.0.acts are.0.within in
    let more = left_falls string first frames frame are.1 in
    omega arith

-- where the last instruction was done
abbrev here : (limits : Limits) (frames : List Frame) (wanted : Wanted)
    → IsAdvanced limits frames wanted → List Frame
here limits frames wanted advanced = advanced.now ∷ advanced.outer

weight_falls : (limits : Limits) (frames : List Frame) (wanted : Wanted)
    (advanced : IsAdvanced limits frames wanted)
    → weight (here limits frames wanted advanced) ≤ weight frames
weight_falls limits frames wanted advanced =
    let less =
    left_falls limits.string advanced.frame advanced.passed.frames advanced.now
    advanced.passed.are in
    subst (λ (l : List Frame). weight (advanced.now ∷ advanced.outer) ≤ weight l)
    (sym advanced.are) (omega arith)

pub below_more : (some more left : ℕ) (step : Step) → some ≤ more → GoesBelow some left step
    → GoesBelow more left step
below_more some more left (Goes machine) less below =
    let under : effort left machine.frames < some = below in
    omega arith
below_more some more left (Ends outcome) less below = tt

pub nothing_kept : (limits : Limits) (frames : List Frame) (step : Step)
    → IsAdvanced limits frames (Nothing step) → Kept limits frames step
nothing_kept limits frames step advanced =
    let kept =
    last_nothing_kept limits (here limits frames (Nothing step) advanced) step advanced.last in
    record {
      stay = kept.stay;
      no_want = kept.no_want;
      falls =
          λ turns.
          let less = weight_falls limits frames (Nothing step) advanced in
          below_more (effort turns (here limits frames (Nothing step) advanced))
          (effort turns frames) turns step (omega arith) (kept.falls turns);
    }

pub turn_kept : (limits : Limits) (frames : List Frame) (machine : Stack)
    → IsAdvanced limits frames (Turn machine) → Turned limits machine
turn_kept limits frames machine advanced =
    last_turn_kept limits (here limits frames (Turn machine) advanced) machine advanced.last

pub call_kept : (limits : Limits) (frames : List Frame) (waiting : Stack) (callee : Callee)
    (arguments : Vec Value Global) → IsAdvanced limits frames (Call waiting callee arguments)
    → CanAsk limits waiting callee arguments.items
call_kept limits frames waiting callee arguments advanced =
    last_call_kept limits (here limits frames (Call waiting callee arguments) advanced)
    waiting callee arguments advanced.last

module _ {S : Type 0} (limits : Limits) (meaning : Hosting S) where
  abbrev set : Setting S
  set = uncounted limits meaning

  passed_same : (outer : List Frame) (turns : ℕ) (state : S) (first : Frame) (frames : List Frame)
      (now : Frame) → HasPassed limits.string first frames now
      → finished set (first ∷ outer) turns state ≡ finished set (now ∷ outer) turns state
  passed_same outer turns state first [] now are =
      ap (λ (f : Frame). finished set (f ∷ outer) turns state) (sym are)
  passed_same outer turns state first (frame ∷ frames) now are =
      passed_same outer turns state first frames frame are.1
      ∙ goes_onward set frame outer turns state are.0.within now are.0.acts.does.same
      are.0.acts.does.is

  module _ (frames : List Frame) (turns : ℕ) (old : S) where
    abbrev before : Ended S
    before = finished set frames turns old

    whole_same : (wanted : Wanted) (advanced : IsAdvanced limits frames wanted)
        → before ≡ finished set (here limits frames wanted advanced) turns old
    whole_same wanted advanced = ap (λ (l : List Frame). finished set l turns old) advanced.are
        ∙ passed_same advanced.outer turns old advanced.frame advanced.passed.frames
        advanced.now advanced.passed.are

    pub nothing_told : (step : Step) → IsAdvanced limits frames (Nothing step)
        → before ≡ rest set step turns old
    nothing_told step advanced =
        whole_same (Nothing step) advanced
        ∙ nothing_goes limits meaning turns old (here limits frames (Nothing step) advanced) step
        advanced.last

    pub turn_told : (machine : Stack) (left : ℕ) (new : S)
        → IsAdvanced limits frames (Turn machine) → 0 < turns → left ≡ turns - 1 → new ≡ old
        → before ≡ rest set (Goes machine) left new
    turn_told machine left new advanced some fewer same =
        whole_same (Turn machine) advanced
        ∙ turn_goes limits meaning turns old (here limits frames (Turn machine) advanced) machine
        left advanced.last (omega arith)
        ∙ ap (λ (s : S). finished set machine.frames left s) (sym same)

    -- where no turn is left, the run ends
    no_turn : (left : ℕ) (new : S) → turns ≡ 0 → left ≡ turns - 1 → new ≡ old
        → before ≡ ended (fatal Budget) 0 old → before ≡ rest set (Ends (Fatal Budget)) left new
    no_turn left new none fewer same is =
        let zero_left : left ≡ 0 = omega arith in
        is ∙ ap (λ (n : ℕ). ended (fatal Budget) n old) (sym zero_left)
        ∙ ap (λ (s : S). ended (fatal Budget) left s) (sym same)

    pub turn_wanted : (machine : Stack) (left : ℕ) (new : S)
        → IsAdvanced limits frames (Turn machine) → turns ≡ 0 → left ≡ turns - 1 → new ≡ old
        → before ≡ rest set (Ends (Fatal Budget)) left new
    turn_wanted machine left new advanced none fewer same =
        no_turn left new none fewer same (whole_same (Turn machine) advanced
        ∙ turn_wanting limits meaning turns old (here limits frames (Turn machine) advanced)
        machine advanced.last none)

    pub call_wanted : (waiting : Stack) (callee : Callee) (arguments : Vec Value Global) (left : ℕ)
        (new : S) → IsAdvanced limits frames (Call waiting callee arguments) → turns ≡ 0
        → left ≡ turns - 1 → new ≡ old
        → before ≡ rest set (Ends (Fatal Budget)) left new
    call_wanted waiting callee arguments left new advanced none fewer same =
        no_turn left new none fewer same (whole_same (Call waiting callee arguments) advanced
        ∙ call_wanting limits meaning turns old
        (here limits frames (Call waiting callee arguments) advanced) waiting callee arguments
        advanced.last none)

    -- what the frames come to is what the call does
    pub call_told : (waiting : Stack) (callee : Callee) (arguments : Vec Value Global) (left : ℕ)
        (asked : S) → IsAdvanced limits frames (Call waiting callee arguments) → 0 < turns
        → left ≡ turns - 1 → asked ≡ old
        → before ≡ calls_from set waiting.frames (called_of callee) arguments.items left asked
    call_told waiting callee arguments left asked advanced some fewer same =
        whole_same (Call waiting callee arguments) advanced
        ∙ call_goes limits meaning turns old
        (here limits frames (Call waiting callee arguments) advanced) waiting callee arguments
        left advanced.last (omega arith)
        ∙ ap (λ (s : S). calls_from set waiting.frames (called_of callee) arguments.items left s)
        (sym same)

    pub call_fetches : (fetched : S → Option ℕ) (count : ℕ) (asked : S) (after : Ended S)
        → asked ≡ old → before ≡ after → Fetches (fetched asked) count (fetched after.state)
        → Fetches (fetched old) count (fetched before.state)
    call_fetches fetched count asked after same is fetches =
        subst (λ (s : S). Fetches (fetched s) count (fetched before.state)) same
        (subst (λ (e : Ended S). Fetches (fetched asked) count (fetched e.state)) (sym is) fetches)
