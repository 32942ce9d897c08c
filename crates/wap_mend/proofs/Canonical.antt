-- A document and what is read of its spelling are spelled alike.
use Rattle.std.proofs.Common.{◌≡◌, refl}
use Rattle.wap_tokens.specs.declared.markup.document.Document.{Document}
use Rattle.wap_wbxml.specs.spelling.Spelling.{spelling, canon}

pub same_spelling : (document : Document) → spelling (canon document) ≡ spelling document
unfolding spelling
same_spelling document = refl
