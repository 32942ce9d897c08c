-- What a call that reads a deck answers.
use Rattle.std.proofs.Common.{List, ℕ, Result, Ok, Err, sym, subst}
use Rattle.std.specs.Prelude.{IfOk}
use Rattle.wap_base.specs.Outcome.{Meets}
use Rattle.wap_tokens.specs.declared.markup.deck.Deck.{Deck}
use Rattle.wap_tokens.specs.declared.markup.mark.DocumentType.TheVariants.{Wml}
use Rattle.wap_tokens.specs.markup.Decks.{deck_of}
use Rattle.wap_tokens.specs.markup.Normal.{IsNormal}
use Rattle.wap_wbxml.specs.declared.fault.DocFault.{DocFault}
use Rattle.wap_wbxml.specs.declared.fault.DocFault.TheVariants.{NoMemory}
use Rattle.wap_wbxml.specs.reading.Making.{whole_made}
use Rattle.wap_wbxml.specs.reading.Whole.{typed_at}
use Rattle.wap_wbxml.proofs.Answering.{Answers, IsMade, given_same, found_is}
use Rattle.wap_deck.proofs.DocumentsLemmas.Normality.{deck_is_normal}
use Rattle.wap_deck.proofs.ReadingLemmas.Made.{deck_made}
use Rattle.wap_deck.specs.reading.inside.DeckParts.{deck_parts}

-- what is made of a document that is read is the deck that it means
pub read_so : (bytes : List ℕ) (result : Result Deck DocFault)
    → Answers (whole_made deck_parts) Wml bytes result → Answers deck_of Wml bytes result
read_so bytes result read =
    subst (λ (r : Result Deck DocFault). Meets NoMemory (λ deck. deck) result r)
    (given_same (whole_made deck_parts) deck_of deck_made (typed_at Wml bytes)) read

-- a deck that a document means is normal
means_normal : (bytes : List ℕ) (result : Result Deck DocFault)
    → IfOk result (IsMade deck_of Wml bytes) → IfOk result IsNormal
means_normal bytes (Ok deck) is = subst IsNormal (sym is.2) (deck_is_normal is.0)
means_normal bytes (Err fault) is = tt

-- a deck that is answered is normal
pub normal_is : (bytes : List ℕ) (result : Result Deck DocFault)
    → Answers deck_of Wml bytes result → IfOk result IsNormal
normal_is bytes result read = means_normal bytes result (found_is deck_of Wml bytes result read)
