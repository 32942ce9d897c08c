-- Pushed bytes, as the document of indications that they spell (WAP-167, section 8).
use Rattle.std.specs.Prelude.{ℕ, List, Result, Ok, Err}
use Rattle.wap_tokens.specs.declared.markup.document.Document.{Document}
use Rattle.wap_tokens.specs.declared.markup.mark.DocumentType.{DocumentType}
use Rattle.wap_tokens.specs.declared.markup.mark.DocumentType.TheVariants.{Other}
use Rattle.wap_tokens.specs.markup.Documents.{IsDocumentOf}
use Rattle.wap_wbxml.specs.declared.fault.DocFault.{DocFault}
use Rattle.wap_wbxml.specs.declared.fault.DocFault.TheVariants as document_fault
use Rattle.wap_wbxml.specs.Refusal.{IsRefusedAs}
use Rattle.wap_wbxml.specs.reading.Whole.{typed_at}
use Rattle.wap_push.specs.declared.tables.TheConstants.{SI_1_0}
use Rattle.wap_push.specs.declared.indication.Indication.{Indication}
use Rattle.wap_push.specs.declared.fault.PushFault.{PushFault}
use Rattle.wap_push.specs.declared.fault.PushFault.TheVariants as fault
use Rattle.wap_push.specs.Indications.{IsIndication, IsRefused}
use Rattle.wap_push.specs.Calculation.{indication_of}

-- the document type of indications
abbrev pub indications : DocumentType
indications = Other SI_1_0

-- the bytes are this indication: they spell a document of indications that is it
pub record IsPush (bytes : List ℕ) (pushed : Indication) : Type 0 where
  pub document : Document
  pub spelled : IsDocumentOf indications bytes document
  pub is : IsIndication document pushed

-- the bytes are no indication, and this is the first reason: they are no document, or one that is
-- no indication
pub data IsNoPush (bytes : List ℕ) : PushFault → Type 0 where
  no_document : (why : DocFault) → IsRefusedAs indications bytes why
      → IsNoPush bytes (fault.Document why)
  no_indication : (document : Document) (why : PushFault)
      → IsDocumentOf indications bytes document → IsRefused document why
      → IsNoPush bytes why

-- they are this indication, or none for this first reason
abbrev pub IsReadAs : List ℕ → Result Indication PushFault → Type 0
IsReadAs bytes (Ok pushed) = IsPush bytes pushed
IsReadAs bytes (Err why) = IsNoPush bytes why

-- all bytes are read as what they are
abbrev pub ReadsPushes : (List ℕ → Result Indication PushFault) → Type 0
ReadsPushes push = (bytes : List ℕ) → IsReadAs bytes (push bytes)

-- ---- the same by calculation

-- the indication of a document, if there is one
abbrev pub push_of : Result Document DocFault → Result Indication PushFault
push_of (Ok document) = indication_of document
push_of (Err why) = Err (fault.Document why)

-- the indication that bytes are, or the first fault
abbrev pub push_at : List ℕ → Result Indication PushFault
push_at bytes = push_of (typed_at indications bytes)

-- a fault of a document, as one of what was pushed
abbrev pub push_error : DocFault → PushFault
push_error document_fault.NoMemory = fault.NoMemory
push_error why = fault.Document why
