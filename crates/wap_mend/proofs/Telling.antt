-- What a page that was mended tells of the deck that was given.
use Rattle.std.proofs.Common.{◌≡◌, ℕ, List, [], sym, ap, subst, arith}
use Rattle.wap_tokens.specs.declared.markup.deck.Deck.{Deck}
use Rattle.wap_tokens.specs.declared.markup.document.Document.{Document}
use Rattle.wap_tokens.specs.markup.Decks.{deck_of}
use Rattle.wap_tokens.specs.markup.Documents.{IsDocument}
use Rattle.wap_wbxml.specs.spelling.Spelling.{spelling, canon}
use Rattle.wap_deck.specs.reading.Meanings.{IsMeant}
use Rattle.wap_mend.specs.Accounts.{signs, number, IsMadeOf}
use Rattle.wap_mend.specs.inside.Frames.{IsStill}
use Rattle.wap_mend.specs.Pages.{IsTold}
use Rattle.wap_mend.specs.declared.change.Change.{Change}
use Rattle.wap_mend.specs.declared.pages.MendedPage.{MendedPage}
use Rattle.wap_mend.proofs.Accounting.{within_refl}
use Rattle.wap_mend.proofs.Pieces.{on_elements, gone_elements, on_attributes}
use Rattle.wap_mend.proofs.Pieces.{gone_attributes_number, came_attributes}

-- a deck that stays is made of itself
made_of_itself : (deck : Deck) → IsMadeOf deck [] deck
made_of_itself deck = record {
  order = within_refl (signs deck);
  all = λ test. grind (arith);
  elements = λ test. grind (arith);
  attributes = λ test. grind (arith);
}

-- what is written for a document means its deck
pub meant_by_spelling : (own : List ℕ) (document : Document) (deck : Deck)
    → own ≡ spelling document → IsDocument (spelling document) (canon document)
    → deck_of document ≡ deck → IsMeant own deck
meant_by_spelling own document deck same read meant =
    (canon document, subst (λ bytes. IsDocument bytes (canon document)) (sym same) read, sym meant)

-- a page that stays
pub told_kept : (given : Deck) (own : List ℕ) (changes : List Change) → changes ≡ []
    → IsMeant own given → IsTold (record { given = given; bytes = own; changes = changes })
told_kept given own changes none meant = record {
  made = given;
  meant = meant;
  made_of = subst (λ some. IsMadeOf given some given) (sym none) (made_of_itself given);
}

-- a page that doesn't
pub told_mended : (given made : Deck) (own : List ℕ) (changes : List Change)
    → IsMeant own made → IsMadeOf given changes made
    → IsTold (record { given = given; bytes = own; changes = changes })
told_mended given made own changes meant made_of =
    record { made = made; meant = meant; made_of = made_of }

-- a deck is made of another, with changes by which nothing more is lost
pub made_with : (given made : Deck) (changes after : List Change) → IsMadeOf given changes made
    → IsStill changes after → IsMadeOf given after made
made_with given made changes after made_of same = record {
  order = made_of.order;
  all = λ test. grind (arith, made_of.all test, ap (number test) same.lost);
  elements = λ test.
      grind (
        arith,
        made_of.elements test,
        ap (number (on_elements test)) same.gone,
        gone_elements test changes,
        gone_elements test after,
      );
  attributes = λ test.
      grind (
        arith,
        made_of.attributes test,
        ap (number (on_attributes test)) same.gone,
        ap (number (on_attributes test)) same.came,
        gone_attributes_number test changes,
        gone_attributes_number test after,
        came_attributes test changes,
        came_attributes test after,
      );
}

-- so what a page tells
pub told_with : (page : MendedPage) (changes : List Change) → IsTold page
    → IsStill page.changes changes
    → IsTold (record { given = page.given; bytes = page.bytes; changes = changes })
told_with page changes told same = record {
  made = told.made;
  meant = told.meant;
  made_of = made_with page.given told.made page.changes changes told.made_of same;
}
