use Rattle.wap_wbxml.proofs.SpellingLemmas.DocumentLaws.{document_read}
use Rattle.wap_wbxml.proofs.spelling.documents.spelling_is_read.Goals as goal

pub returns : goal.returns
returns c = document_read
