use Rattle.wap_wbxml.proofs.SpellingLemmas.TakenDocuments.{all_bytes, spellable_taken, texts_taken}
use Rattle.wap_wbxml.proofs.spelling.documents.documents_are_spellable.Goals as goal

pub returns-clause-spellable : goal.returns-clause-spellable
returns-clause-spellable c = spellable_taken c.args._bytes.now

pub returns-clause-texts : goal.returns-clause-texts
returns-clause-texts c = λ document.
    texts_taken c.args._bytes.now document
    (all_bytes c.args._bytes.now (λ i. (c.type_inv._bytes i).fits))
