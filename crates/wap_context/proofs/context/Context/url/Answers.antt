use Rattle.std.proofs.Common.{◌∙◌, sym, ap}
use Rattle.std.specs.Option.{option_map}
use Rattle.wap_world.specs.declared.history.Entry.{Entry}
use Rattle.wap_world.specs.World.{last_entry}
use Rattle.wap_context.specs.Browsers.{Browser}
use Rattle.wap_context.proofs.Plays.{if_ok, url_here, some_held}
use Rattle.wap_context.proofs.context.Context.url.Goals as goal

pub returns-clause-is : goal.returns-clause-is
returns-clause-is c =
    let found = some_held c.here.result c.if-is_none.ensures in
    if_ok c.deck_url.result
    (λ url is.
    is ∙ ap (λ (b : Browser). option_map (λ (e : Entry). e.url) (last_entry b.world)) c.self.view_is
    ∙ url_here c.args.self.now found.0 (sym c.here.ensures ∙ found.1))
    c.deck_url.ensures.is
