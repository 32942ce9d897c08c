use Rattle.wap_tokens.specs.markup.Good.{rule_of, rules as the_rules}
use Rattle.wap_cards.proofs.content.may_have_text.Goals as goal

pub returns : goal.returns
unfolding rule_of the_rules
returns c = c.text_beside.ensures
