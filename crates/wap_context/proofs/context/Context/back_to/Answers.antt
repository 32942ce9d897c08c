use Rattle.std.proofs.Common.{◌≡◌, ◌∙◌, ap, subst, Option, None, IfSome}
use Rattle.wap_url.specs.declared.url.Url.{Url}
use Rattle.wap_tokens.specs.declared.markup.deck.Deck.{Deck}
use Rattle.wap_context.specs.Browsers.{place_held}
use Rattle.wap_context.specs.inside.AtHand.{page_under}
use Rattle.wap_context.proofs.Takings.{takes_rejected}
use Rattle.wap_context.proofs.HeldDecks.{entry_here}
use Rattle.wap_context.proofs.Requesting.{back_returns, back_asks}
use Rattle.wap_context.proofs.context.Context.back_to.Goals as goal

pub returns-in_ok-return_to-in-Some : goal.returns-in_ok-return_to-in-Some
returns-in_ok-return_to-in-Some g c =
    back_returns (g.P.Pages.seen c.args.pages.now)
    c.args.self.now c.return_to.new.self c.args.lines.now c.args.sets c.args.earlier
    c.return_to.new.lines c.in_ok-return_to-in-Some.field-0
    c.in_ok-here.field-0 (c.in-Some.here, c.in-Some.deck)
    c.of-card.result
    (c.in_ok-here.ensures.is
    ∙ ap (λ (u : Url). page_under u (place_held c.args.self.now)) c.url.ensures) c.in-Some.is
    (c.of-card.ensures
    ∙ entry_here c.in-Some.here c.args.earlier c.card.result c.card.ensures
    (subst (λ (o : Option (Url × Deck)). IfSome o (λ page. page.0.fragment ≡ None)) c.in-Some.is
    c.in_ok-here.ensures.whole))
    c.in_ok-return_to-in-Some.ensures

pub returns-in_err-return_to-in-Some : goal.returns-in_err-return_to-in-Some
returns-in_err-return_to-in-Some g c =
    takes_rejected c.from_residual-in_err-return_to-in-Some.result
    c.from_residual-in_err-return_to-in-Some.ensures.0
    c.from_residual-in_err-return_to-in-Some.ensures.1

pub returns-in-None : goal.returns-in-None
returns-in-None g c =
    back_asks (g.P.Pages.seen c.args.pages.now)
    c.args.self.now c.ask_back.new.self c.args.lines.now c.args.sets c.args.earlier
    (g.P.Pages.seen c.ask_back.new.pages) c.ask_back.new.lines c.in_ok-here.field-0
    c.ask_back.result (c.in_ok-here.ensures.is
    ∙ ap (λ (u : Url). page_under u (place_held c.args.self.now)) c.url.ensures) c.in-None.is
    c.ask_back.ensures

pub returns-in_err-here : goal.returns-in_err-here
returns-in_err-here g c =
    takes_rejected c.from_residual.result c.from_residual.ensures.0 c.from_residual.ensures.1
