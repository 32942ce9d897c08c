-- Both lists are computed, and are the same.
use Rattle.std.proofs.Common.{refl}
use Rattle.wap_tokens.specs.markup.Good.{rules}
use Rattle.wap_deckcheck.proofs.laws.rules_are_listed.Goals as goal

pub returns : goal.returns
unfolding rules
returns c = refl
