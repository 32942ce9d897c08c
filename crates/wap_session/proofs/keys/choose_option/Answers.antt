use Rattle.std.proofs.Common.{sym, ap, subst, ◌∙◌, ◌++◌, List, ℕ, Ok, refl}
use Rattle.std.specs.List.{flat_map}
use Rattle.std.proofs.lemmas.Result.{err_from_is_err_and}
use Rattle.wap_base.specs.declared.key.Key.TheVariants as key
use Rattle.wap_world.proofs.SiteLemmas.Asking.{Stays-same}
use Rattle.wap_world.specs.Steps.{quiet}
use Rattle.wap_world.specs.Setting.{fault_lines}
use Rattle.wap_world.specs.Screens.{show}
use Rattle.wap_world.specs.Keys.{ignored, act_or, apply}
use Rattle.wap_context.specs.Browsers.{place_held}
use Rattle.wap_context.specs.Sites.{site_of}
use Rattle.wap_session.specs.inside.Turns.{IsBehind}
use Rattle.wap_session.proofs.Rules.{Acts-ok, Acts-err, Acts-leads, Acts-ignored, Acts-wants}
use Rattle.wap_session.proofs.Typing.{chosen_leads, chosen_none}
use Rattle.wap_session.proofs.keys.choose_option.Goals as goal

pub returns-in_ok-ignore-in-NoOption : goal.returns-in_ok-ignore-in-NoOption
returns-in_ok-ignore-in-NoOption g c =
    let seen = g.P.Pages.seen c.args.pages.now in
    let mid = c.choose.new.self in
    let did = c.in_ok-ignore-in-NoOption.field-0 in
    Acts-leads (λ pages keys world. quiet keys (ignored world))
    (λ pages keys world. apply (site_of pages) (place_held c.args.context.now) keys world
    (key.Choose c.args.field c.args.option))
    seen seen mid c.args.context.now mid
    (chosen_none c.args.context.now mid c.args.field c.args.option
    c.in_ok-choose.ensures.vars (sym c.in-NoOption.is ∙ c.in_ok-choose.ensures.answer))
    (Ok did)
    (Acts-ignored (λ pages keys world. quiet keys (ignored world)) seen mid did
    c.in_ok-ignore-in-NoOption.ensures (λ pages is keys. refl))

pub returns-in_err-add_fault_lines-in-Set : goal.returns-in_err-add_fault_lines-in-Set
returns-in_err-add_fault_lines-in-Set g c =
    let seen = g.P.Pages.seen c.args.pages.now in
    Acts-wants _ seen seen c.args.context.now c.choose.new.self
    c.from_residual-in_err-add_fault_lines-in-Set.result (Stays-same seen)
    c.from_residual-in_err-add_fault_lines-in-Set.ensures.1

pub returns-in_err-did-in-Set : goal.returns-in_err-did-in-Set
returns-in_err-did-in-Set g c =
    let leads = chosen_leads c.args.context.now c.choose.new.self c.args.field c.args.option
    c.in-Set.faults c.in-Set.task
    c.in_ok-choose.ensures.vars (sym c.in-Set.is ∙ c.in_ok-choose.ensures.answer) in
    let p = err_from_is_err_and c.from_residual-in_err-did-in-Set.result
    c.from_residual-in_err-did-in-Set.ensures.1 in
    rw (p.1, p.2) (Acts-err (flat_map fault_lines c.in-Set.faults)
    (λ pages keys world.
    act_or (show (place_held c.choose.new.self) world) (site_of pages) keys world c.in-Set.task)
    (λ pages keys world. apply (site_of pages) (place_held c.args.context.now) keys world
    (key.Choose c.args.field c.args.option))
    (g.P.Pages.seen c.args.pages.now) (g.P.Pages.seen c.act_or_show.new.pages)
    c.choose.new.self c.args.context.now c.act_or_show.new.context leads
    c.in_err-did-in-Set.field-0.0 c.in_err-did-in-Set.ensures)

pub returns-in_ok-behind-in-Set : goal.returns-in_ok-behind-in-Set
returns-in_ok-behind-in-Set g c =
    let leads = chosen_leads c.args.context.now c.choose.new.self c.args.field c.args.option
    c.in-Set.faults c.in-Set.task
    c.in_ok-choose.ensures.vars (sym c.in-Set.is ∙ c.in_ok-choose.ensures.answer) in
    let did = c.in_ok-did-in-Set.did in
    let further = c.in_ok-behind-in-Set.field-0 in
    Acts-ok (flat_map fault_lines c.in-Set.faults)
    (λ pages keys world.
    act_or (show (place_held c.choose.new.self) world) (site_of pages) keys world c.in-Set.task)
    (λ pages keys world. apply (site_of pages) (place_held c.args.context.now) keys world
    (key.Choose c.args.field c.args.option))
    (g.P.Pages.seen c.args.pages.now) (g.P.Pages.seen c.act_or_show.new.pages)
    c.choose.new.self c.args.context.now c.act_or_show.new.context leads did further
    (subst (λ (lines : List (List ℕ)). IsBehind lines did further)
    (c.in_ok-add_fault_lines-in-Set.ensures.ok
    ∙ ap (λ (front : List (List ℕ)). front ++ flat_map fault_lines c.as_slice.result.now)
    c.new-lines.ensures
    ∙ ap (flat_map fault_lines) c.as_slice.ensures)
    c.in_ok-behind-in-Set.ensures)
    c.in_ok-did-in-Set.ensures

pub returns-in_err-choose : goal.returns-in_err-choose
returns-in_err-choose g c =
    Acts-wants _ (g.P.Pages.seen c.args.pages.now) (g.P.Pages.seen c.args.pages.now)
    c.args.context.now c.choose.new.self c.from_residual.result
    (Stays-same (g.P.Pages.seen c.args.pages.now)) c.from_residual.ensures.1

pub returns-in_err-ignore-in-NoOption : goal.returns-in_err-ignore-in-NoOption
returns-in_err-ignore-in-NoOption g c =
    Acts-wants _ (g.P.Pages.seen c.args.pages.now) (g.P.Pages.seen c.args.pages.now)
    c.args.context.now c.choose.new.self c.from_residual-in_err-ignore-in-NoOption.result
    (Stays-same (g.P.Pages.seen c.args.pages.now))
    c.from_residual-in_err-ignore-in-NoOption.ensures.1
