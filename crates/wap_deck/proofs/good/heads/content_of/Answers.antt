use Rattle.std.proofs.Common.{sym, subst, List, ℕ, arith}
use Rattle.std.proofs.lemmas.List.{take_rest}
use Rattle.wap_deck.specs.good.Readers.{IsBehind}
use Rattle.wap_deck.specs.good.inside.Nodes.{IsContent}
use Rattle.wap_deck.proofs.GoodLemmas.Ending.{behind_drop}
use Rattle.wap_deck.proofs.good.heads.content_of.Goals as goal

pub returns-clause-exact : goal.returns-clause-exact
returns-clause-exact c =
    subst (IsContent c.args.bytes.now) (sym (take_rest c.args.bytes.now c.args.head))
    (c.requires.known (omega arith))

pub returns-clause-behind : goal.returns-clause-behind
returns-clause-behind c =
    subst (λ (l : List ℕ). IsBehind l c.args.bytes.now)
    (sym (take_rest c.args.bytes.now c.args.head)) (behind_drop c.args.head c.args.bytes.now)
