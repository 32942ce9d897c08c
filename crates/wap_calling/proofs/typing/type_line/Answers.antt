-- What a line comes to is what the keys come to that were read of it.
use Rattle.std.proofs.Common.{◌≡◌, ◌∙◌, subst}
use Rattle.wap_context.specs.Sites.{IfOver}
use Rattle.wap_session.specs.Feeding.{Leads}
use Rattle.wap_calling.specs.Calling.{keys_at}
use Rattle.wap_calling.proofs.typing.type_line.Goals as goal

pub returns-in_ok-play-in-Ok : goal.returns-in_ok-play-in-Ok
returns-in_ok-play-in-Ok g c =
    let keys_are : c.as_slice.result.now ≡ keys_at c.args.line.now =
    c.as_slice.ensures ∙ c.in-Ok.ensures.keys in
    subst (λ keys. IfOver (g.P.Pages.seen c.play.new.pages) c.args.session.now.browser
    (λ pages. Leads keys pages c.args.session.now c.play.new.self c.in_ok-play-in-Ok.field-0))
    keys_are c.in_ok-play-in-Ok.ensures.plays.leads
