use Rattle.std.proofs.Common.{◌∙◌, sym, []}
use Rattle.wap_deck.proofs.GoodLemmas.Ending.{behind_on, behind_first, behind_nothing}
use Rattle.wap_deck.proofs.GoodLemmas.Ending.{content_there, no_content_there, nothing_there}
use Rattle.wap_deck.proofs.good.head.kids_begin.Goals as goal

pub returns-then-has_content-clause-exact : goal.returns-then-has_content-clause-exact
returns-then-has_content-clause-exact c =
    content_there c.args.bytes.now c.in-Some.mark c.in-Some.rest.now c.after_head.result.now
    c.in-Some.ensures (sym c.has_content.ensures ∙ c.if-has_content.true) c.after_head.ensures.exact

pub returns-then-has_content-clause-behind : goal.returns-then-has_content-clause-behind
returns-then-has_content-clause-behind c =
    behind_on c.after_head.result.now c.in-Some.rest.now c.args.bytes.now
    c.after_head.ensures.behind
    (behind_first c.args.bytes.now c.in-Some.mark c.in-Some.rest.now c.in-Some.ensures)

pub returns-else-has_content-clause-exact : goal.returns-else-has_content-clause-exact
returns-else-has_content-clause-exact c =
    no_content_there c.args.bytes.now c.in-Some.mark c.in-Some.rest.now c.in-Some.ensures
    (sym c.has_content.ensures ∙ c.if-has_content.false)

pub returns-else-has_content-clause-behind : goal.returns-else-has_content-clause-behind
returns-else-has_content-clause-behind c = behind_nothing c.args.bytes.now

pub returns-in-None-clause-exact : goal.returns-in-None-clause-exact
returns-in-None-clause-exact c = nothing_there c.args.bytes.now [] c.in-None.ensures

pub returns-in-None-clause-behind : goal.returns-in-None-clause-behind
returns-in-None-clause-behind c = behind_nothing c.args.bytes.now
