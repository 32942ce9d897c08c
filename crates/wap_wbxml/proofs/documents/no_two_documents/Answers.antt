use Rattle.wap_wbxml.proofs.DocumentLaws.{one_document, document_takes, document_again}
use Rattle.wap_wbxml.proofs.DocumentLaws.{document_stops, document_fails}
use Rattle.wap_wbxml.proofs.documents.no_two_documents.Goals as goal

pub returns-clause-one : goal.returns-clause-one
returns-clause-one c = one_document

pub returns-clause-found : goal.returns-clause-found
returns-clause-found c =
    λ kind bytes document.
    (document_takes kind bytes document, document_again kind bytes document)

pub returns-clause-refused : goal.returns-clause-refused
returns-clause-refused c = λ kind bytes fault.
    (document_stops kind bytes fault, document_fails kind bytes fault)
