-- How a run ends where a page isn't mended.
use Rattle.std.proofs.Common.{◌≡◌, ◌≢◌, ℕ, List, refl, subst}
use Rattle.wap_wbxml.specs.declared.fault.DocFault.{DocFault}
use Rattle.wap_deckcheck.specs.declared.fault.DeckFault.TheVariants as deck
use Rattle.wap_pages.specs.declared.fault.PageFault.{PageFault}
use Rattle.wap_pages.specs.declared.fault.PageFault.TheVariants as page
use Rattle.wap_mend.specs.Pages.{IsNoDocument, HasNoCard}
use Rattle.wap_mend.specs.declared.mending.MendFault.{MendFault}
use Rattle.wap_mend.specs.declared.mending.MendFault.TheVariants as mend
use Rattle.wap_explain.specs.declared.ending.Ending.TheVariants.{Good, Refused}
use Rattle.wap_explain.specs.Mending.{ending_of, IsUnmended, document, no_card}

-- it doesn't end as if the page were mended
pub never_good : (why : MendFault) → ending_of why ≢ Good
never_good (mend.Document fault) is = cc
never_good mend.NoCard is = cc
never_good mend.NoMemory is = cc

same_fault : (one other : PageFault) → Refused one ≡ Refused other → one ≡ other
same_fault one other is = cc

-- it ends with a fault that has a cause
pub unmended : (bytes : List ℕ) (why : MendFault) (fault : PageFault)
    → ((of : DocFault) → why ≡ mend.Document of → IsNoDocument bytes of)
    → (why ≡ mend.NoCard → HasNoCard bytes)
    → ending_of why ≡ Refused fault → IsUnmended bytes fault
unmended bytes (mend.Document of) fault read card is =
    subst (IsUnmended bytes) (same_fault (page.Document of) fault is) (document of (read of refl))
unmended bytes mend.NoCard fault read card is =
    subst (IsUnmended bytes) (same_fault (page.Deck deck.NoCard) fault is) (no_card (card refl))
unmended bytes mend.NoMemory fault read card is = absurd (cc is)
