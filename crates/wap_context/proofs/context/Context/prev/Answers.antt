use Rattle.std.proofs.Common.{◌∙◌, sym, ap}
use Rattle.wap_world.specs.declared.refusal.Refusal.TheVariants as refusals
use Rattle.wap_world.specs.History.{earlier_entry}
use Rattle.wap_world.specs.Tasks.{back_to, back_from, prev}
use Rattle.wap_world.specs.scripting.UnitSites.{shelf_of}
use Rattle.wap_context.specs.Browsers.{Browser, place_held}
use Rattle.wap_context.proofs.Takings.{takes_from, takes_rejected}
use Rattle.wap_context.proofs.Requesting.{refused_takes}
use Rattle.wap_context.proofs.context.Context.prev.Goals as goal

pub returns-in-Some : goal.returns-in-Some
returns-in-Some g c =
    let old = c.args.self.now in
    let place = place_held old in
    takes_from (λ pages keys. prev (shelf_of pages) place keys c.args.sets)
    (λ pages keys. back_from (shelf_of pages) place keys c.args.sets c.in-Some.earlier)
    (g.P.Pages.seen c.args.pages.now) (g.P.Pages.seen c.back_to.new.pages) old c.back_to.new.self
    c.args.lines.now c.back_to.new.lines c.back_to.result
    (λ pages over keys.
    ap (back_to (shelf_of pages) place keys c.args.sets old.world)
    (sym c.in-Some.is ∙ c.in_ok-earlier.ensures
    ∙ ap (λ (b : Browser). earlier_entry b.world) c.self.view_is))
    c.back_to.ensures

pub returns-in_ok-refuse-in-None : goal.returns-in_ok-refuse-in-None
returns-in_ok-refuse-in-None g c =
    let old = c.args.self.now in
    let place = place_held old in
    refused_takes (g.P.Pages.seen c.args.pages.now) old c.refuse.new.self c.args.lines.now
    (λ pages keys. prev (shelf_of pages) place keys c.args.sets) c.refuse.new.lines
    c.in_ok-refuse-in-None.field-0 refusals.First
    (λ pages keys.
    ap (back_to (shelf_of pages) place keys c.args.sets old.world)
    (sym (sym c.in-None.is ∙ c.in_ok-earlier.ensures
    ∙ ap (λ (b : Browser). earlier_entry b.world) c.self.view_is)))
    c.in_ok-refuse-in-None.ensures

pub returns-in_err-earlier : goal.returns-in_err-earlier
returns-in_err-earlier g c =
    takes_rejected c.from_residual.result c.from_residual.ensures.0 c.from_residual.ensures.1

pub returns-in_err-refuse-in-None : goal.returns-in_err-refuse-in-None
returns-in_err-refuse-in-None g c =
    takes_rejected c.from_residual-in_err-refuse-in-None.result
    c.from_residual-in_err-refuse-in-None.ensures.0 c.from_residual-in_err-refuse-in-None.ensures.1
