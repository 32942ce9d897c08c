use Rattle.std.proofs.Common.{◌∙◌, sym, ap}
use Rattle.wap_url.specs.declared.url.Url.{Url}
use Rattle.std.specs.Prelude.{Option}
use Rattle.wap_world.specs.Tasks.{base_url, go, stay_or_ask}
use Rattle.wap_context.specs.Browsers.{place_held}
use Rattle.wap_context.specs.Sites.{site_of}
use Rattle.wap_context.proofs.Navigations.{go_is, go_refused}
use Rattle.wap_context.proofs.Takings.{takes_from, takes_rejected}
use Rattle.wap_context.proofs.Requesting.{refused_takes}
use Rattle.wap_context.proofs.context.Context.go.Goals as goal

pub returns-in_ok-request-in-Ok : goal.returns-in_ok-request-in-Ok
returns-in_ok-request-in-Ok g c =
    let old = c.args.self.now in
    let place = place_held old in
    takes_from (λ pages keys.
    go (site_of pages) place keys (base_url place c.args.from) c.args.one)
    (λ pages keys. stay_or_ask (site_of pages) place keys c.args.one.sets c.in_ok-base.base
    c.in_ok-request-in-Ok.request)
    (g.P.Pages.seen c.args.pages.now) (g.P.Pages.seen c.stay_or_ask.new.pages) old
    c.stay_or_ask.new.self c.args.lines.now c.stay_or_ask.new.lines c.stay_or_ask.result
    (λ pages over keys.
    go_is (site_of pages) place keys old.world c.in_ok-base.base c.args.one c.in-Ok.url
    c.in_ok-request-in-Ok.request (sym c.in-Ok.is ∙ c.in_ok-url.ensures)
    c.in_ok-request-in-Ok.ensures
    ∙ ap (λ (base : Option Url). go (site_of pages) place keys base c.args.one old.world)
    c.in_ok-base.ensures.is)
    c.stay_or_ask.ensures

pub returns-in_ok-refuse-in-Err : goal.returns-in_ok-refuse-in-Err
returns-in_ok-refuse-in-Err g c =
    let old = c.args.self.now in
    let place = place_held old in
    refused_takes (g.P.Pages.seen c.args.pages.now) old c.refuse.new.self c.args.lines.now
    (λ pages keys. go (site_of pages) place keys (base_url place c.args.from) c.args.one)
    c.refuse.new.lines c.in_ok-refuse-in-Err.field-0 c.in-Err.refusal
    (λ pages keys.
    sym (ap (λ (base : Option Url). go (site_of pages) place keys base c.args.one old.world)
    c.in_ok-base.ensures.is)
    ∙ go_refused (site_of pages) place keys old.world c.in_ok-base.base c.args.one
    c.in-Err.refusal (sym c.in-Err.is ∙ c.in_ok-url.ensures))
    c.in_ok-refuse-in-Err.ensures

pub returns-in_err-url : goal.returns-in_err-url
returns-in_err-url g c =
    takes_rejected c.from_residual-in_err-url.result c.from_residual-in_err-url.ensures.0
    c.from_residual-in_err-url.ensures.1

pub returns-in_err-request-in-Ok : goal.returns-in_err-request-in-Ok
returns-in_err-request-in-Ok g c =
    takes_rejected c.from_residual-in_err-request-in-Ok.result
    c.from_residual-in_err-request-in-Ok.ensures.0 c.from_residual-in_err-request-in-Ok.ensures.1

pub returns-in_err-refuse-in-Err : goal.returns-in_err-refuse-in-Err
returns-in_err-refuse-in-Err g c =
    takes_rejected c.from_residual-in_err-refuse-in-Err.result
    c.from_residual-in_err-refuse-in-Err.ensures.0 c.from_residual-in_err-refuse-in-Err.ensures.1

pub returns-in_err-base : goal.returns-in_err-base
returns-in_err-base g c =
    takes_rejected c.from_residual.result c.from_residual.ensures.0 c.from_residual.ensures.1
