-- What a call that reads a document answers, whatever it makes of the document.
use Rattle.std.proofs.Common.{◌≡◌, ◌≢◌, List, ℕ, Result, Ok, Err, refl, sym, ap, subst}
use Rattle.std.specs.Prelude.{IfOk, IfErr}
use Rattle.wap_base.specs.Outcome.{Meets, ◌>>=◌}
use Rattle.wap_tokens.specs.declared.markup.document.Document.{Document}
use Rattle.wap_tokens.specs.declared.markup.mark.DocumentType.{DocumentType}
use Rattle.wap_tokens.specs.markup.Documents.{IsDocumentOf}
use Rattle.wap_wbxml.specs.declared.fault.DocFault.{DocFault}
use Rattle.wap_wbxml.specs.declared.fault.DocFault.TheVariants.{NoMemory}
use Rattle.wap_wbxml.specs.Refusal.{IsRefusedAs}
use Rattle.wap_wbxml.specs.reading.inside.DocumentParts.{document_parts}
use Rattle.wap_wbxml.specs.reading.Making.{whole_made}
use Rattle.wap_wbxml.specs.reading.Whole.{typed_at}
use Rattle.wap_wbxml.proofs.DocumentLaws.{document_takes, document_again}
use Rattle.wap_wbxml.proofs.DocumentLaws.{document_stops, document_fails}
use Rattle.wap_wbxml.proofs.KeptDocuments.{document_kept}

-- what is made of a document that was read, or the fault that there is none
abbrev pub given : {W : Type 0} → (Document → W) → Result Document DocFault → Result W DocFault
given make read = read >>= λ document. Ok (make document)

-- two ways to make something of a document that agree
pub given_same : {W : Type 0} (make other : Document → W)
    → ((document : Document) → make document ≡ other document)
    → (read : Result Document DocFault) → given make read ≡ given other read
given_same make other same (Ok document) = ap Ok (same document)
given_same make other same (Err fault) = refl

module _ {W : Type 0} (make : Document → W) (kind : DocumentType) (bytes : List ℕ) where
  -- the call answered what is made of the document that the bytes spell
  abbrev pub Answers : Result W DocFault → Type 0
  Answers result = Meets NoMemory (λ whole. whole) result (given make (typed_at kind bytes))

  -- a document and what is made of it
  abbrev pub IsMade : W → Type 0
  IsMade whole = (document : Document) × IsDocumentOf kind bytes document × (whole ≡ make document)

  -- what was made is made of the document that was read
  made_of : (whole : W) (read : Result Document DocFault) → typed_at kind bytes ≡ read
      → given make read ≡ Ok whole → IsMade whole
  made_of whole (Ok document) is means =
      (document, document_takes kind bytes document is, cc)
  made_of whole (Err fault) is means = absurd (cc)

  -- what is answered is made of a document that is spelled so
  pub found_is : (result : Result W DocFault) → Answers result → IfOk result IsMade
  found_is (Ok whole) read = made_of whole (typed_at kind bytes) refl read
  found_is (Err fault) read = tt

  -- what is spelled so is answered
  pub only_is : (result : Result W DocFault) → Answers result
      → (document : Document) → IsDocumentOf kind bytes document
      → Meets NoMemory (λ whole. whole) result (Ok (make document))
  only_is result read document is =
      subst (λ (r : Result Document DocFault).
      Meets NoMemory (λ whole. whole) result (given make r))
      (document_again kind bytes document is) read

  -- a fault is that of the document that was not read
  stopped_by : (fault : DocFault) (read : Result Document DocFault) → typed_at kind bytes ≡ read
      → given make read ≡ Err fault → IsRefusedAs kind bytes fault
  stopped_by fault (Ok document) is means = absurd (cc)
  stopped_by fault (Err other) is means = document_stops kind bytes fault (cc)

  -- a fault that is answered says what is refused
  pub refused_is : (result : Result W DocFault) → Answers result
      → IfErr result (λ fault. fault ≢ NoMemory → IsRefusedAs kind bytes fault)
  refused_is (Ok whole) read = tt
  refused_is (Err fault) read = λ other.
      stopped_by fault (typed_at kind bytes) refl (read other)

  -- what is refused so is answered
  pub first_is : (result : Result W DocFault) → Answers result
      → (fault : DocFault) → IsRefusedAs kind bytes fault
      → Meets NoMemory (λ whole. whole) result (Err fault)
  first_is result read fault refused =
      subst (λ (r : Result Document DocFault).
      Meets NoMemory (λ whole. whole) result (given make r))
      (document_fails kind bytes fault refused) read

-- ---- documents as they are

-- nothing is made of a document
given_nothing : (read : Result Document DocFault) → given (λ d. d) read ≡ read
given_nothing (Ok document) = refl
given_nothing (Err fault) = refl

module _ (kind : DocumentType) (bytes : List ℕ) where
  -- what is answered is the document that is spelled so
  pub as_it_is : (result : Result Document DocFault)
      → Answers (whole_made document_parts) kind bytes result
      → Answers (λ d. d) kind bytes result
  as_it_is result read =
      subst (λ (r : Result Document DocFault). Meets NoMemory (λ d. d) result r)
      (given_same (whole_made document_parts) (λ d. d) document_kept (typed_at kind bytes)) read

  -- and exactly that
  pub exactly : (result : Result Document DocFault) → Answers (λ d. d) kind bytes result
      → Meets NoMemory (λ d. d) result (typed_at kind bytes)
  exactly result read =
      subst (λ (r : Result Document DocFault). Meets NoMemory (λ d. d) result r)
      (given_nothing (typed_at kind bytes)) read

  -- it is spelled so
  pub spelled : (result : Result Document DocFault) → IfOk result (IsMade (λ d. d) kind bytes)
      → IfOk result (λ document. IsDocumentOf kind bytes document)
  spelled (Ok document) is = subst (IsDocumentOf kind bytes) (sym is.2) is.1
  spelled (Err fault) is = tt
