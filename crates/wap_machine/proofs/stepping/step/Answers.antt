use Rattle.std.proofs.Common.{◌≡◌, ◌-◌, ℕ, Option, sym, ap, subst, ◌∙◌, arith}
use Rattle.std.proofs.lemmas.Result.{IfOk-weaker}
use Rattle.wap_base.specs.declared.limits.Limits.{Limits}
use Rattle.wap_machine.specs.declared.machine.Step.TheVariants.{Goes}
use Rattle.wap_machine.specs.Hosts.{Grows, Fetches}
use Rattle.wap_execution.specs.laws.Settings.{uncounted}
use Rattle.wap_machine.specs.Runs.{run_of}
use Rattle.wap_machine.specs.Seen.{called_of}
use Rattle.wap_machine.specs.inside.Efforts.{effort, GoesBelow}
use Rattle.wap_machine.specs.inside.MachineSteps.{rest, calls_from, LimitsStay, Wants, IsInOrderFor}
use Rattle.wap_machine.proofs.CallLaws.{grows_same}
use Rattle.wap_machine.proofs.StepLaws.{none_left, light_below, never_wants}
use Rattle.wap_machine.proofs.GoingLaws.{nothing_told, turn_told, turn_wanted}
use Rattle.wap_machine.proofs.GoingLaws.{call_wanted, call_told, call_fetches}
use Rattle.wap_machine.proofs.GoingLaws.{below_more, nothing_kept, turn_kept, call_kept}
use Rattle.wap_machine.proofs.RoundLaws.{wants, came}
use Rattle.wap_machine.proofs.stepping.step.Goals as goal

-- ---- nothing was wanted

pub returns-in-Ok-Nothing-clause-told : goal.returns-in-Ok-Nothing-clause-told
returns-in-Ok-Nothing-clause-told g c = λ under may.
    let comes = wants c.in-Ok-Nothing.field-0-is c.in-Ok-Nothing.ensures.comes in
    came comes (c.advance.ensures.state c.args.pages.now under)
    ∙ nothing_told c.args.machine.limits g.H.Host.meaning comes.middle
    (g.H.Host.turns c.advance.new.host)
    (g.H.Host.state c.advance.new.host c.args.pages.now under) c.in-Ok-Nothing.step comes.advanced

pub returns-in-Ok-Nothing-clause-limits : goal.returns-in-Ok-Nothing-clause-limits
returns-in-Ok-Nothing-clause-limits g c =
    let comes = wants c.in-Ok-Nothing.field-0-is c.in-Ok-Nothing.ensures.comes in
    (nothing_kept c.args.machine.limits comes.middle c.in-Ok-Nothing.step comes.advanced).stay

pub returns-in-Ok-Nothing-clause-wants : goal.returns-in-Ok-Nothing-clause-wants
returns-in-Ok-Nothing-clause-wants g c =
    let comes = wants c.in-Ok-Nothing.field-0-is c.in-Ok-Nothing.ensures.comes in
    never_wants (g.H.Host.turns c.advance.new.host) c.in-Ok-Nothing.step
    (nothing_kept c.args.machine.limits comes.middle c.in-Ok-Nothing.step comes.advanced).no_want

pub returns-in-Ok-Nothing-clause-falls : goal.returns-in-Ok-Nothing-clause-falls
returns-in-Ok-Nothing-clause-falls g c =
    let comes = wants c.in-Ok-Nothing.field-0-is c.in-Ok-Nothing.ensures.comes in
    let left = g.H.Host.turns c.advance.new.host in
    below_more (effort left comes.middle)
    (effort (g.H.Host.turns c.args.host.now) c.args.machine.frames) left c.in-Ok-Nothing.step
    comes.falls ((nothing_kept c.args.machine.limits comes.middle c.in-Ok-Nothing.step
    comes.advanced).falls left)

pub returns-in-Ok-Nothing-clause-grown : goal.returns-in-Ok-Nothing-clause-grown
returns-in-Ok-Nothing-clause-grown g c = λ under may.
    let count = g.H.Host.fetched (g.H.Host.state c.args.host.now c.args.pages.now under) in
    subst (Grows count) (sym (ap g.H.Host.fetched (c.advance.ensures.state c.args.pages.now under)))
    (grows_same count)

-- ---- a turn was wanted

pub returns-then-turn-clause-told : goal.returns-then-turn-clause-told
returns-then-turn-clause-told g c = λ under may.
    let comes = wants c.in-Ok-Turn.field-0-is c.in-Ok-Turn.ensures.comes in
    came comes (c.advance.ensures.state c.args.pages.now under)
    ∙ turn_told c.args.machine.limits g.H.Host.meaning comes.middle
    (g.H.Host.turns c.advance.new.host)
    (g.H.Host.state c.advance.new.host c.args.pages.now under)
    c.in-Ok-Turn.machine (g.H.Host.turns c.turn.new.self)
    (g.H.Host.state c.turn.new.self c.args.pages.now under) comes.advanced
    (c.turn.ensures.some.0 c.if-turn.true) c.turn.ensures.turns
    (c.turn.ensures.state c.args.pages.now under)

pub returns-then-turn-clause-limits : goal.returns-then-turn-clause-limits
returns-then-turn-clause-limits g c =
    let comes = wants c.in-Ok-Turn.field-0-is c.in-Ok-Turn.ensures.comes in
    (turn_kept c.args.machine.limits comes.middle c.in-Ok-Turn.machine comes.advanced).stay

pub returns-then-turn-clause-falls : goal.returns-then-turn-clause-falls
returns-then-turn-clause-falls g c =
    let comes = wants c.in-Ok-Turn.field-0-is c.in-Ok-Turn.ensures.comes in
    let turns = g.H.Host.turns c.advance.new.host in
    let left = g.H.Host.turns c.turn.new.self in
    below_more (effort turns comes.middle)
    (effort (g.H.Host.turns c.args.host.now) c.args.machine.frames) left (Goes c.in-Ok-Turn.machine)
    comes.falls (light_below turns left comes.middle (Goes c.in-Ok-Turn.machine)
    (c.turn.ensures.some.0 c.if-turn.true) c.turn.ensures.turns
    (turn_kept c.args.machine.limits comes.middle c.in-Ok-Turn.machine comes.advanced).light)

pub returns-then-turn-clause-grown : goal.returns-then-turn-clause-grown
returns-then-turn-clause-grown g c = λ under may.
    let count = g.H.Host.fetched (g.H.Host.state c.args.host.now c.args.pages.now under) in
    subst (Grows count) (sym (ap g.H.Host.fetched (c.turn.ensures.state c.args.pages.now under
    ∙ c.advance.ensures.state c.args.pages.now under))) (grows_same count)

pub returns-else-turn-clause-told : goal.returns-else-turn-clause-told
returns-else-turn-clause-told g c = λ under may.
    let comes = wants c.in-Ok-Turn.field-0-is c.in-Ok-Turn.ensures.comes in
    came comes (c.advance.ensures.state c.args.pages.now under)
    ∙ turn_wanted c.args.machine.limits g.H.Host.meaning comes.middle
    (g.H.Host.turns c.advance.new.host)
    (g.H.Host.state c.advance.new.host c.args.pages.now under)
    c.in-Ok-Turn.machine (g.H.Host.turns c.turn.new.self)
    (g.H.Host.state c.turn.new.self c.args.pages.now under) comes.advanced
    (none_left c.turn.result (g.H.Host.turns c.advance.new.host) c.turn.ensures.some.1
    c.if-turn.false)
    c.turn.ensures.turns (c.turn.ensures.state c.args.pages.now under)

pub returns-else-turn-clause-wants : goal.returns-else-turn-clause-wants
returns-else-turn-clause-wants g c = λ budget.
    let none =
    none_left c.turn.result
    (g.H.Host.turns c.advance.new.host) c.turn.ensures.some.1 c.if-turn.false in
    let left = c.turn.ensures.turns in
    omega arith

pub returns-else-turn-clause-grown : goal.returns-else-turn-clause-grown
returns-else-turn-clause-grown g c = λ under may.
    let count = g.H.Host.fetched (g.H.Host.state c.args.host.now c.args.pages.now under) in
    subst (Grows count) (sym (ap g.H.Host.fetched (c.turn.ensures.state c.args.pages.now under
    ∙ c.advance.ensures.state c.args.pages.now under))) (grows_same count)

-- ---- a call was wanted

pub call-requires-clause-few : goal.call-requires-clause-few
call-requires-clause-few g c =
    let comes = wants c.in-Ok-Call.field-0-is c.in-Ok-Call.ensures.comes in
    (call_kept c.args.machine.limits comes.middle c.in-Ok-Call.waiting c.in-Ok-Call.callee
    c.in-Ok-Call.arguments comes.advanced).few

pub call-requires-clause-can : goal.call-requires-clause-can
call-requires-clause-can g c =
    let comes = wants c.in-Ok-Call.field-0-is c.in-Ok-Call.ensures.comes in
    (call_kept c.args.machine.limits comes.middle c.in-Ok-Call.waiting c.in-Ok-Call.callee
    c.in-Ok-Call.arguments comes.advanced).can

pub returns-then-turn-2-clause-told : goal.returns-then-turn-2-clause-told
returns-then-turn-2-clause-told g c =
    let comes = wants c.in-Ok-Call.field-0-is c.in-Ok-Call.ensures.comes in
    let frames = comes.middle in
    let waiting = c.in-Ok-Call.waiting in
    let items = c.in-Ok-Call.arguments.items in
    let callee = called_of c.in-Ok-Call.callee in
    let left = g.H.Host.turns c.turn-in-Ok-Call.new.self in
    let fewer = g.H.Host.turns c.call.new.host in
    let stay =
    (call_kept c.args.machine.limits frames waiting c.in-Ok-Call.callee c.in-Ok-Call.arguments
    comes.advanced).stay in
    IfOk-weaker c.call.result (λ step. (under : g.H.Host.Under)
    → g.H.Host.may_have c.call.new.pages under
    → calls_from (uncounted waiting.limits g.H.Host.meaning) waiting.frames callee items left
    (g.H.Host.state c.turn-in-Ok-Call.new.self c.args.pages.now under)
    ≡ rest (uncounted waiting.limits g.H.Host.meaning) step fewer
    (g.H.Host.state c.call.new.host c.call.new.pages under))
    (λ step. (under : g.H.Host.Under) → g.H.Host.may_have c.call.new.pages under
    → run_of c.args.machine g.H.Host.meaning (g.H.Host.turns c.args.host.now)
    (g.H.Host.state c.args.host.now c.args.pages.now under)
    ≡ rest (uncounted c.args.machine.limits g.H.Host.meaning) step fewer
    (g.H.Host.state c.call.new.host c.call.new.pages under))
    (λ step told under may.
    let asked = g.H.Host.state c.turn-in-Ok-Call.new.self c.args.pages.now under in
    came comes (c.advance.ensures.state c.args.pages.now under)
    ∙ call_told c.args.machine.limits g.H.Host.meaning frames (g.H.Host.turns c.advance.new.host)
    (g.H.Host.state c.advance.new.host c.args.pages.now under) waiting c.in-Ok-Call.callee
    c.in-Ok-Call.arguments left asked comes.advanced
    (c.turn-in-Ok-Call.ensures.some.0 c.if-turn-2.true) c.turn-in-Ok-Call.ensures.turns
    (c.turn-in-Ok-Call.ensures.state c.args.pages.now under)
    ∙ subst (λ (l : Limits). calls_from (uncounted l g.H.Host.meaning) waiting.frames callee
    items left asked ≡ rest (uncounted l g.H.Host.meaning) step fewer
    (g.H.Host.state c.call.new.host c.call.new.pages under)) stay (told under may))
    c.call.ensures.told

pub returns-then-turn-2-clause-limits : goal.returns-then-turn-2-clause-limits
returns-then-turn-2-clause-limits g c =
    let comes = wants c.in-Ok-Call.field-0-is c.in-Ok-Call.ensures.comes in
    let stay =
    (call_kept c.args.machine.limits comes.middle c.in-Ok-Call.waiting c.in-Ok-Call.callee
    c.in-Ok-Call.arguments comes.advanced).stay in
    IfOk-weaker c.call.result (IsInOrderFor c.in-Ok-Call.waiting.limits)
    (LimitsStay c.args.machine.limits) (λ step order.
    subst (λ (l : Limits). LimitsStay l step) stay order.limits_stay) c.call.ensures.order

pub returns-then-turn-2-clause-wants : goal.returns-then-turn-2-clause-wants
returns-then-turn-2-clause-wants g c =
    IfOk-weaker c.call.result (IsInOrderFor c.in-Ok-Call.waiting.limits)
    (Wants (g.H.Host.turns c.call.new.host)) (λ step order.
    never_wants (g.H.Host.turns c.call.new.host) step order.turns_are) c.call.ensures.order

pub returns-then-turn-2-clause-falls : goal.returns-then-turn-2-clause-falls
returns-then-turn-2-clause-falls g c =
    let comes = wants c.in-Ok-Call.field-0-is c.in-Ok-Call.ensures.comes in
    let turns = g.H.Host.turns c.advance.new.host in
    let most = effort (g.H.Host.turns c.args.host.now) c.args.machine.frames in
    let left = g.H.Host.turns c.call.new.host in
    let fewer : left ≡ turns - 1 = c.call.ensures.turns ∙ c.turn-in-Ok-Call.ensures.turns in
    IfOk-weaker c.call.result (IsInOrderFor c.in-Ok-Call.waiting.limits) (GoesBelow most left)
    (λ step order. below_more (effort turns comes.middle) most left step comes.falls
    (light_below turns left comes.middle step (c.turn-in-Ok-Call.ensures.some.0 c.if-turn-2.true)
    fewer order.light)) c.call.ensures.order

pub returns-then-turn-2-clause-grown : goal.returns-then-turn-2-clause-grown
returns-then-turn-2-clause-grown g c =
    IfOk-weaker c.call.result (λ _. (under : g.H.Host.Under)
    → g.H.Host.may_have c.call.new.pages under
    → Grows (g.H.Host.fetched (g.H.Host.state c.turn-in-Ok-Call.new.self c.args.pages.now under))
    (g.H.Host.fetched (g.H.Host.state c.call.new.host c.call.new.pages under)))
    (λ _. (under : g.H.Host.Under) → g.H.Host.may_have c.call.new.pages under
    → Grows (g.H.Host.fetched (g.H.Host.state c.args.host.now c.args.pages.now under))
    (g.H.Host.fetched (g.H.Host.state c.call.new.host c.call.new.pages under)))
    (λ step grown under may. subst (λ (o : Option ℕ). Grows o
    (g.H.Host.fetched (g.H.Host.state c.call.new.host c.call.new.pages under)))
    (ap g.H.Host.fetched (c.turn-in-Ok-Call.ensures.state c.args.pages.now under
    ∙ c.advance.ensures.state c.args.pages.now under))
    (grown under may)) c.call.ensures.grown

pub returns-then-turn-2-clause-fetched : goal.returns-then-turn-2-clause-fetched
returns-then-turn-2-clause-fetched g c = λ is under may.
    let comes = wants c.in-Ok-Call.field-0-is c.in-Ok-Call.ensures.comes in
    let frames = comes.middle in
    let turns = g.H.Host.turns c.advance.new.host in
    let old = g.H.Host.state c.advance.new.host c.args.pages.now under in
    let waiting = c.in-Ok-Call.waiting in
    let items = c.in-Ok-Call.arguments.items in
    let callee = called_of c.in-Ok-Call.callee in
    let asked = g.H.Host.state c.turn-in-Ok-Call.new.self c.args.pages.now under in
    let same = c.turn-in-Ok-Call.ensures.state c.args.pages.now under in
    let left = g.H.Host.turns c.turn-in-Ok-Call.new.self in
    let count = g.H.Host.fetches c.call.new.pages in
    let stay =
    (call_kept c.args.machine.limits frames waiting c.in-Ok-Call.callee c.in-Ok-Call.arguments
    comes.advanced).stay in
    let first = g.H.Host.state c.args.host.now c.args.pages.now under in
    let before = c.advance.ensures.state c.args.pages.now under in
    call_fetches c.args.machine.limits g.H.Host.meaning c.args.machine.frames
    (g.H.Host.turns c.args.host.now) first g.H.Host.fetched count asked
    (calls_from (uncounted c.args.machine.limits g.H.Host.meaning) waiting.frames callee items
    left asked) (same ∙ before) (came comes before
    ∙ call_told c.args.machine.limits g.H.Host.meaning frames turns old waiting c.in-Ok-Call.callee
    c.in-Ok-Call.arguments left asked comes.advanced
    (c.turn-in-Ok-Call.ensures.some.0 c.if-turn-2.true) c.turn-in-Ok-Call.ensures.turns same)
    (subst (λ (l : Limits). Fetches (g.H.Host.fetched asked) count (g.H.Host.fetched
    (calls_from (uncounted l g.H.Host.meaning) waiting.frames callee items left asked).state)) stay
    (c.call.ensures.fetched is under may))

pub returns-else-turn-2-clause-told : goal.returns-else-turn-2-clause-told
returns-else-turn-2-clause-told g c = λ under may.
    let comes = wants c.in-Ok-Call.field-0-is c.in-Ok-Call.ensures.comes in
    came comes (c.advance.ensures.state c.args.pages.now under)
    ∙ call_wanted c.args.machine.limits g.H.Host.meaning comes.middle
    (g.H.Host.turns c.advance.new.host)
    (g.H.Host.state c.advance.new.host c.args.pages.now under)
    c.in-Ok-Call.waiting c.in-Ok-Call.callee c.in-Ok-Call.arguments
    (g.H.Host.turns c.turn-in-Ok-Call.new.self)
    (g.H.Host.state c.turn-in-Ok-Call.new.self c.args.pages.now under) comes.advanced
    (none_left c.turn-in-Ok-Call.result (g.H.Host.turns c.advance.new.host)
    c.turn-in-Ok-Call.ensures.some.1 c.if-turn-2.false) c.turn-in-Ok-Call.ensures.turns
    (c.turn-in-Ok-Call.ensures.state c.args.pages.now under)

pub returns-else-turn-2-clause-wants : goal.returns-else-turn-2-clause-wants
returns-else-turn-2-clause-wants g c = λ budget.
    let none =
    none_left c.turn-in-Ok-Call.result
    (g.H.Host.turns c.advance.new.host) c.turn-in-Ok-Call.ensures.some.1 c.if-turn-2.false in
    let left = c.turn-in-Ok-Call.ensures.turns in
    omega arith

pub returns-else-turn-2-clause-grown : goal.returns-else-turn-2-clause-grown
returns-else-turn-2-clause-grown g c = λ under may.
    let count = g.H.Host.fetched (g.H.Host.state c.args.host.now c.args.pages.now under) in
    subst (Grows count) (sym (ap g.H.Host.fetched (c.turn-in-Ok-Call.ensures.state c.args.pages.now
    under ∙ c.advance.ensures.state c.args.pages.now under))) (grows_same count)
