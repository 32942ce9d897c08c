use Rattle.wap_pages.proofs.Judgements.{deck_page, page_deck, script_page, page_script}
use Rattle.wap_pages.proofs.Judgements.{text_page, page_text_is, neither_page, page_there}
use Rattle.wap_pages.proofs.Judgements.{page_of-judged, judged_pages_fit}
use Rattle.wap_pages.proofs.law.pages_are_judged.Goals as goal

pub returns-clause-pages : goal.returns-clause-pages
returns-clause-pages c = page_of-judged

pub returns-clause-deck : goal.returns-clause-deck
returns-clause-deck c = λ name bytes deck. (page_deck name bytes deck, deck_page name bytes deck)

pub returns-clause-script : goal.returns-clause-script
returns-clause-script c =
    λ name bytes unit are. (page_script name bytes are unit, script_page name bytes unit)

pub returns-clause-words : goal.returns-clause-words
returns-clause-words c =
    λ name bytes text. (page_text_is name bytes text, text_page name bytes text)

pub returns-clause-refused : goal.returns-clause-refused
returns-clause-refused c = neither_page

pub returns-clause-found : goal.returns-clause-found
returns-clause-found c = page_there

pub returns-clause-site : goal.returns-clause-site
returns-clause-site c = judged_pages_fit
