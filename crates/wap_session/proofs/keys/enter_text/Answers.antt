use Rattle.std.proofs.Common.{sym, ◌∙◌}
use Rattle.std.proofs.lemmas.Result.{IfOk-weaker}
use Rattle.wap_cardrules.specs.declared.answers.Entered.TheVariants as entered
use Rattle.wap_session.proofs.Typing.{enters}
use Rattle.wap_session.proofs.keys.enter_text.Goals as goal

pub returns-in-Refused : goal.returns-in-Refused
returns-in-Refused c =
    IfOk-weaker c.then_screen.result _ _
    (λ lines so. enters c.args.context.now c.enter_text.new.self c.enter_text.new.self
    c.args.number c.args.text.now entered.Refused lines
    c.in_ok-enter_text.ensures.vars (sym c.in-Refused.is ∙ c.in_ok-enter_text.ensures.answer) so)
    c.then_screen.ensures

pub returns-in-Full : goal.returns-in-Full
returns-in-Full c =
    IfOk-weaker c.refuse.result _ _
    (λ lines so. enters c.args.context.now c.enter_text.new.self c.refuse.new.context
    c.args.number c.args.text.now entered.Full lines
    c.in_ok-enter_text.ensures.vars (sym c.in-Full.is ∙ c.in_ok-enter_text.ensures.answer) so)
    c.refuse.ensures

pub returns-in-Set : goal.returns-in-Set
returns-in-Set c =
    IfOk-weaker c.show.result _ _
    (λ lines so. enters c.args.context.now c.enter_text.new.self c.show.new.self c.args.number
    c.args.text.now entered.Set lines
    c.in_ok-enter_text.ensures.vars (sym c.in-Set.is ∙ c.in_ok-enter_text.ensures.answer) so)
    c.show.ensures.shows
