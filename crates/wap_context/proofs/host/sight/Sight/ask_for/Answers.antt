use Rattle.wap_context.proofs.HostLemmas.Serving.{asks_nothing}
use Rattle.wap_context.proofs.host.sight.Sight.ask_for.Goals as goal

pub returns-in_err-add_request : goal.returns-in_err-add_request
returns-in_err-add_request g c =
    asks_nothing c.args.url.now c.args.self.now c.add_request.new.self
    (g.P.Pages.seen c.args.pages.now) c.from_residual.result c.from_residual.ensures.0
    c.from_residual.ensures.1

pub returns-in_err-name : goal.returns-in_err-name
returns-in_err-name g c =
    asks_nothing c.args.url.now c.args.self.now c.add_request.new.self
    (g.P.Pages.seen c.args.pages.now) c.from_residual-in_err-name.result
    c.from_residual-in_err-name.ensures.0 c.from_residual-in_err-name.ensures.1
