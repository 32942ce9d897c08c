use Rattle.std.proofs.Common.{ap}
use Rattle.wap_tokens.specs.markup.Good.{rules, rule_or_none, rule_of}
use Rattle.wap_deckcheck.proofs.rules.Rule.of.Goals as goal

pub returns-in-Some : goal.returns-in-Some
unfolding rules rule_of
returns-in-Some c = ap rule_or_none c.in-Some.ensures

pub returns-in-None : goal.returns-in-None
unfolding rules rule_of
returns-in-None c = ap rule_or_none c.in-None.ensures
