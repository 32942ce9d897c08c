-- What mending a deck gives. This project's own.
use Rattle.std.specs.Prelude.{◌≢◌, []}
use Rattle.wap_tokens.specs.declared.markup.deck.Deck.{Deck}
use Rattle.wap_tokens.specs.markup.Good.{IsGood}
use Rattle.wap_tokens.specs.markup.Normal.{IsNormal}
use Rattle.wap_mend.specs.Accounts.{IsMadeOf}
use Rattle.wap_mend.specs.declared.mending.Mended.{Mended}

-- a good deck, for which something was changed, made of the one that was given
pub record IsMended (given : Deck) (mended : Mended) : Type 0 where
  pub normal : IsNormal mended.deck
  pub good : IsGood mended.deck
  pub changed : mended.changes ≢ []
  pub made : IsMadeOf given mended.changes mended.deck
