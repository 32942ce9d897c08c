use Rattle.wap_deckcheck.proofs.Completeness.{refused_is_bad}
use Rattle.wap_deckcheck.proofs.judge.judge_deck.Goals as goal

pub returns-clause-bad : goal.returns-clause-bad
returns-clause-bad c =
    refused_is_bad c.args.deck.now c.walk_deck.result c.requires c.walk_deck.ensures
