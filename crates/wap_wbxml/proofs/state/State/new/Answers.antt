use Rattle.std.proofs.Common.{◌≡◌, ℕ, List, [], sym, ap}
use Rattle.wap_tokens.specs.markup.Grammar.{table_size}
use Rattle.wap_wbxml.proofs.state.State.new.Goals as goal

no_size : (names : List (List ℕ)) → names ≡ [] → 0 ≡ table_size names
unfolding table_size
no_size names none = ap table_size (sym none)

pub invariant_of-result : goal.invariant_of-result
invariant_of-result c = no_size c.new.result.keys c.new.ensures.empty
