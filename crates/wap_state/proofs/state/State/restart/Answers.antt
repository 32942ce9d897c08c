use Rattle.std.proofs.Common.{rules}
use Rattle.wap_state.proofs.state.State.restart.Goals as goal

pub returns-clause-plays : goal.returns-clause-plays
returns-clause-plays c = λ url. search (rules, c.add_screen.ensures.plays url)
