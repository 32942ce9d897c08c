use Rattle.wap_deckcheck.proofs.GoodDecks.{good_without_faults}
use Rattle.wap_deckcheck.proofs.Completeness.{no_faults_where_good}
use Rattle.wap_deckcheck.proofs.laws.good_is_faultless.Goals as goal

pub returns : goal.returns
returns c =
    λ deck normal.
    (λ good. no_faults_where_good deck normal good, λ none. good_without_faults deck none)
