use Rattle.std.proofs.Common.{ℕ, List, Option, None, Ok, refl, sym, ap, subst, ◌∙◌}
use Rattle.wap_world.proofs.SiteLemmas.Asking.{Stays-same}
use Rattle.wap_world.specs.inboxes.Inboxes.{opening, play_pressed}
use Rattle.wap_context.specs.Acting.{Acts}
use Rattle.wap_context.specs.Browsers.{place_held}
use Rattle.wap_context.specs.Sites.{site_of}
use Rattle.wap_session.specs.notices.Taking.{url_in}
use Rattle.wap_session.proofs.Rules.{Acts-ignored, Acts-wants}
use Rattle.wap_session.proofs.keys.follow_entry.Goals as goal

pub returns-in_err-url : goal.returns-in_err-url
returns-in_err-url g c =
    Acts-wants _ (g.P.Pages.seen c.args.pages.now) (g.P.Pages.seen c.args.pages.now)
    c.args.context.now c.args.context.now c.from_residual.result
    (Stays-same (g.P.Pages.seen c.args.pages.now)) c.from_residual.ensures.1

pub returns-in_err-ignore-in-None : goal.returns-in_err-ignore-in-None
returns-in_err-ignore-in-None g c =
    Acts-wants _ (g.P.Pages.seen c.args.pages.now) (g.P.Pages.seen c.args.pages.now)
    c.args.context.now c.args.context.now c.from_residual-in_err-ignore-in-None.result
    (Stays-same (g.P.Pages.seen c.args.pages.now)) c.from_residual-in_err-ignore-in-None.ensures.1

pub returns-in-Some : goal.returns-in-Some
returns-in-Some g c =
    subst (λ (url : Option (List ℕ)). Acts (λ pages keys world.
    play_pressed (site_of pages) (place_held c.args.context.now) keys world (opening url))
    (g.P.Pages.seen c.args.pages.now)
    (g.P.Pages.seen c.open.new.pages) c.args.context.now c.open.new.self c.open.result)
    (sym c.in-Some.is ∙ c.in_ok-url.ensures ∙ ap (url_in c.args.inbox.now) c.from.ensures)
    c.open.ensures

pub returns-in_ok-ignore-in-None : goal.returns-in_ok-ignore-in-None
returns-in_ok-ignore-in-None g c =
    let seen = g.P.Pages.seen c.args.pages.now in
    let old = c.args.context.now in
    subst (λ (url : Option (List ℕ)). Acts (λ pages keys world.
    play_pressed (site_of pages) (place_held old) keys world (opening url)) seen seen old old
    (Ok c.in_ok-ignore-in-None.field-0))
    (sym c.in-None.is ∙ c.in_ok-url.ensures ∙ ap (url_in c.args.inbox.now) c.from.ensures)
    (Acts-ignored (λ pages keys world.
    play_pressed (site_of pages) (place_held old) keys world (opening None)) seen
    old c.in_ok-ignore-in-None.field-0 c.in_ok-ignore-in-None.ensures (λ pages is keys. refl))
