use Rattle.std.proofs.Common.{rules}
use Rattle.std.proofs.lemmas.Iterator.{YieldsList-from_chars}
use Rattle.std.proofs.lemmas.Iterator.Search.{all_from_yields_List}
use Rattle.wap_tokens.specs.markup.Good.{is_blank}
use Rattle.wap_deckcheck.proofs.rules.are_blanks.Goals as goal

pub returns : goal.returns
returns c =
    all_from_yields_List is_blank _ _ c.all.result c.all.ensures.ran
    (YieldsList-from_chars c.args.text.now c.utf8.text cc) (λ x b q called. search rules)
