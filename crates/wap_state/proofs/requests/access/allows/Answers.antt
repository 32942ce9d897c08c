use Rattle.wap_state.proofs.RequestsLemmas.Prefixes.{allows_is}
use Rattle.wap_state.proofs.requests.access.allows.Goals as goal

pub returns : goal.returns
returns c = allows_is c.allows.result c.args.access.now c.args.caller.now c.allows.ensures
