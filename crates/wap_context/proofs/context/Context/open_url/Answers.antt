use Rattle.std.proofs.Common.{None, ◌∙◌, sym, ap, ap₂}
use Rattle.std.specs.Prelude.{Option}
use Rattle.wap_url.specs.declared.url.Url.{Url}
use Rattle.wap_cardrules.specs.Values.{Pairs}
use Rattle.wap_world.specs.Requests.{Request}
use Rattle.wap_world.specs.Urls.{target_of}
use Rattle.wap_world.specs.Tasks.{request, open_url}
use Rattle.wap_context.specs.Browsers.{place_held}
use Rattle.wap_context.specs.Sites.{site_of}
use Rattle.wap_context.proofs.Navigations.{open_is, open_refused}
use Rattle.wap_context.proofs.Takings.{takes_from, takes_rejected}
use Rattle.wap_context.proofs.Requesting.{refused_takes}
use Rattle.wap_context.proofs.context.Context.open_url.Goals as goal

pub returns-in-Ok : goal.returns-in-Ok
returns-in-Ok g c =
    let old = c.args.self.now in
    let place = place_held old in
    takes_from (λ pages keys. open_url (site_of pages) place keys c.args.url.now)
    (λ pages keys. request (site_of pages) place keys c.new-sets.result None c.get.result)
    (g.P.Pages.seen c.args.pages.now) (g.P.Pages.seen c.request.new.pages) old c.request.new.self
    c.args.lines.now c.request.new.lines c.request.result
    (λ pages over keys.
    ap₂ (λ (s : Pairs) (r : Request). request (site_of pages) place keys s None r old.world)
    c.new-sets.ensures c.get.ensures
    ∙ open_is (site_of pages) place keys old.world c.args.url.now c.in-Ok.url
    (sym c.in-Ok.is ∙ c.in_ok-url.ensures
    ∙ ap (λ (base : Option Url). target_of base c.args.url.now) c.in_ok-base.ensures.is))
    c.request.ensures

pub returns : goal.returns
returns g c =
    let old = c.args.self.now in
    let place = place_held old in
    refused_takes (g.P.Pages.seen c.args.pages.now) old c.refuse.new.self c.args.lines.now
    (λ pages keys. open_url (site_of pages) place keys c.args.url.now) c.refuse.new.lines
    c.in_ok-refuse-in-Err.field-0 c.in-Err.refusal
    (λ pages keys.
    open_refused (site_of pages) place keys old.world c.args.url.now c.in-Err.refusal
    (sym c.in-Err.is ∙ c.in_ok-url.ensures
    ∙ ap (λ (base : Option Url). target_of base c.args.url.now) c.in_ok-base.ensures.is))
    c.in_ok-refuse-in-Err.ensures

pub returns-in_err-base : goal.returns-in_err-base
returns-in_err-base g c =
    takes_rejected c.from_residual.result c.from_residual.ensures.0 c.from_residual.ensures.1

pub returns-in_err-url : goal.returns-in_err-url
returns-in_err-url g c =
    takes_rejected c.from_residual-in_err-url.result c.from_residual-in_err-url.ensures.0
    c.from_residual-in_err-url.ensures.1

pub returns-in_err-refuse-in-Err : goal.returns-in_err-refuse-in-Err
returns-in_err-refuse-in-Err g c =
    takes_rejected c.from_residual-in_err-refuse-in-Err.result
    c.from_residual-in_err-refuse-in-Err.ensures.0 c.from_residual-in_err-refuse-in-Err.ensures.1
