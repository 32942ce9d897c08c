-- Causes why a page isn't mended.
use Rattle.std.proofs.Common.{◌≡◌, List, [], ℕ, Some, sym, ap, ◌∙◌}
use Rattle.wap_tokens.specs.declared.markup.deck.Deck.{Deck}
use Rattle.wap_tokens.specs.markup.Cards.{cards_of}
use Rattle.wap_deck.specs.reading.Meanings.{IsMeant}
use Rattle.wap_wbxml.specs.declared.fault.DocFault.{DocFault}
use Rattle.wap_wbxml.specs.declared.fault.DocFault.TheVariants as fault
use Rattle.wap_wbxml.specs.Refusal.{IsRefused}
use Rattle.wap_mend.specs.Identifiers.{known}
use Rattle.wap_mend.specs.Pages.{IsReadAs, as_it_is, with_other, IsGivenBy, IsNoDocument, HasNoCard}

-- bytes with another identifier are read in the place of those that are refused for theirs
pub other_is_read : (bytes other : List ℕ) → IsRefused bytes fault.PublicId
    → known bytes ≡ Some other → IsReadAs bytes other
other_is_read bytes other refused is = with_other other refused is

-- what is read instead is refused
pub other_refused : (bytes other : List ℕ) (why : DocFault) → IsReadAs bytes other
    → IsRefused other why → IsNoDocument bytes why
other_refused bytes other why reading refused =
    record { read = other; reading = reading; refused = refused }

-- what is read instead has no card
pub other_without_card : (bytes other : List ℕ) (deck : Deck) → IsReadAs bytes other
    → IsMeant other deck → cards_of deck ≡ [] → HasNoCard bytes
other_without_card bytes other deck reading meant none =
    record {
      read = other;
      reading = reading;
      document = meant.0;
      spelled = meant.1;
      none = ap cards_of (sym meant.2) ∙ none;
    }

-- the bytes are refused
pub own_refused : (bytes : List ℕ) (why : DocFault) → IsRefused bytes why → IsNoDocument bytes why
own_refused bytes why refused = other_refused bytes bytes why as_it_is refused

-- the bytes have no card
pub own_without_card : (bytes : List ℕ) (deck : Deck) → IsMeant bytes deck → cards_of deck ≡ []
    → HasNoCard bytes
own_without_card bytes deck meant none = other_without_card bytes bytes deck as_it_is meant none

-- what is read instead means a deck
pub other_given : (bytes other : List ℕ) (deck : Deck) → IsReadAs bytes other → IsMeant other deck
    → IsGivenBy bytes deck
other_given bytes other deck reading meant =
    record { read = other; reading = reading; meant = meant }

-- the bytes mean a deck
pub own_given : (bytes : List ℕ) (deck : Deck) → IsMeant bytes deck → IsGivenBy bytes deck
own_given bytes deck meant = other_given bytes bytes deck as_it_is meant
