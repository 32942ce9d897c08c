-- What is pushed is read, and what is no indication is refused.
use Rattle.std.proofs.Common.{◌≡◌, ◌≢◌, ℕ, Bool, true, false, cond, List}
use Rattle.std.proofs.Common.{Option, Some, None, Ok, Err, refl, sym, ap, subst, ◌∙◌, ◌&&◌}
use Rattle.std.specs.Prelude.{Result, IfErr}
use Rattle.wap_base.specs.Outcome.{Meets}
use Rattle.wap_tokens.specs.declared.markup.document.Document.{Document}
use Rattle.wap_tokens.specs.declared.markup.document.Element.{Element}
use Rattle.wap_wbxml.specs.declared.fault.DocFault.{DocFault}
use Rattle.wap_wbxml.specs.declared.fault.DocFault.TheVariants as document_fault
use Rattle.wap_wbxml.specs.reading.Whole.{typed_at}
use Rattle.wap_wbxml.proofs.DocumentLaws.{document_takes, document_again}
use Rattle.wap_wbxml.proofs.DocumentLaws.{document_stops, document_fails}
use Rattle.wap_push.specs.declared.indication.Indication.{Indication}
use Rattle.wap_push.specs.declared.fault.PushFault.{PushFault}
use Rattle.wap_push.specs.declared.fault.PushFault.TheVariants as fault
use Rattle.wap_push.specs.Fields.{elements_of, created_of, identifier_of}
use Rattle.wap_push.specs.Indications.{is_si, is_info, IsBody, IsIndication, IsRefused}
use Rattle.wap_push.specs.Calculation.{is_none, body_in, named, dated, indication_in, indication_of}
use Rattle.wap_push.specs.Pushes.{indications, IsNoPush, IsReadAs, push_of, push_at}
use Rattle.wap_push.specs.Pushes.{push_error}
use Rattle.wap_push.proofs.Readings.{body_found, indication_named, nameless}

-- ---- a document that is an indication is read as it

-- the indication's element is found
body_again : (document : Document) (body : Element) → IsBody document body
    → body_in (elements_of document.root.kids) ≡ Some body
body_again document body child =
    ap body_in child.elements
    ∙ ap (λ (b : Bool). cond (b && (is_info child.others && is_none (elements_of body.kids)))
    (Some body) None) child.indication
    ∙ ap (λ (b : Bool). cond (b && is_none (elements_of body.kids)) (Some body) None) child.info
    ∙ ap (λ (elements : List Element). cond (is_none elements) (Some body) None) child.plain

-- a document of indications with an element that is one
in_body : (document : Document) (body : Element) → is_si document ≡ true → IsBody document body
    → indication_of document ≡ dated body (created_of body.attrs)
in_body document body root child =
    ap (λ (b : Bool).
    cond b (indication_in (body_in (elements_of document.root.kids))) (Err fault.Root)) root
    ∙ ap indication_in (body_again document body child)

indication_again : (document : Document) (pushed : Indication) → IsIndication document pushed
    → indication_of document ≡ Ok pushed
indication_again document pushed is =
    in_body document is.body is.root is.child ∙ ap (dated is.body) is.created
    ∙ ap (named is.body pushed.created) is.id
    ∙ (λ i. Ok (record {
      id = pushed.id;
      href = sym is.href i;
      created = pushed.created;
      action = sym is.action i;
      text = sym is.text i;
    }))

-- ---- and one that is none is refused

no_body : (document : Document) (found : Option Element)
    → body_in (elements_of document.root.kids) ≡ found
    → ((body : Element) → IsBody document body → ⊥) → indication_in found ≡ Err fault.Child
no_body document None is none = refl
no_body document (Some body) is none = absurd (none body (body_found document body is))

refused_again : (document : Document) (why : PushFault) → IsRefused document why
    → indication_of document ≡ Err why
refused_again document (fault.Document why) no_way = absurd no_way
refused_again document fault.Root other =
    ap (λ (b : Bool).
    cond b (indication_in (body_in (elements_of document.root.kids))) (Err fault.Root)) other
refused_again document fault.Child (root, none) =
    ap (λ (b : Bool).
    cond b (indication_in (body_in (elements_of document.root.kids))) (Err fault.Root)) root
    ∙ no_body document (body_in (elements_of document.root.kids)) refl none
refused_again document fault.Created undated =
    in_body document undated.body undated.root undated.child
    ∙ ap (dated undated.body) undated.created
refused_again document fault.NoId nameless =
    in_body document nameless.body nameless.root nameless.child
    ∙ ap (dated nameless.body) nameless.created
    ∙ ap (named nameless.body nameless.time) nameless.id
refused_again document fault.NoMemory no_way = absurd no_way

-- ---- and both of them by the calculation

abbrev Judged : Document → Result Indication PushFault → Type 0
Judged document (Ok pushed) = IsIndication document pushed
Judged document (Err why) = IsRefused document why

judged_named : (document : Document) (body : Element) (created : ℕ) (id : Option (List ℕ))
    → is_si document ≡ true → IsBody document body → created_of body.attrs ≡ Some created
    → identifier_of body.attrs ≡ id → Judged document (named body created id)
judged_named document body created None root child time id =
    nameless document body created root child time None id fault.NoId refl
judged_named document body created (Some name) root child time id =
    indication_named document body created root child time (Some name) id _ refl

judged_dated : (document : Document) (body : Element) (created : Option ℕ)
    → is_si document ≡ true → IsBody document body → created_of body.attrs ≡ created
    → Judged document (dated body created)
judged_dated document body None root child time =
    record { root = root; body = body; child = child; created = time }
judged_dated document body (Some created) root child time =
    judged_named document body created (identifier_of body.attrs) root child time refl

judged_in : (document : Document) (found : Option Element) → is_si document ≡ true
    → body_in (elements_of document.root.kids) ≡ found → Judged document (indication_in found)
judged_in document None root is =
    (root, λ body child. none_some (sym is ∙ body_again document body child))
  where
    none_some : {X : Type 0} {x : X} → None ≡ Some x → ⊥
    none_some e = cc
judged_in document (Some body) root is =
    judged_dated document body (created_of body.attrs) root (body_found document body is) refl

judged_by : (document : Document) (b : Bool) → is_si document ≡ b
    → Judged document
    (cond b (indication_in (body_in (elements_of document.root.kids))) (Err fault.Root))
judged_by document true root =
    judged_in document (body_in (elements_of document.root.kids)) root refl
judged_by document false other = other

judged : (document : Document) → Judged document (indication_of document)
judged document = judged_by document (is_si document) refl

-- ---- pushed bytes

pub push_fails : (bytes : List ℕ) (why : PushFault) → IsNoPush bytes why → push_at bytes ≡ Err why
push_fails bytes why (IsNoPush.no_document other refused) =
    ap push_of (document_fails indications bytes other refused)
push_fails bytes why (IsNoPush.no_indication document other spelled refused) =
    ap push_of (document_again indications bytes document spelled)
    ∙ refused_again document why refused

read_indication : (bytes : List ℕ) (document : Document) (read : Result Indication PushFault)
    → typed_at indications bytes ≡ Ok document → Judged document read → IsReadAs bytes read
read_indication bytes document (Ok pushed) is judged =
    record {
      document = document;
      spelled = document_takes indications bytes document is;
      is =
          judged;
    }
read_indication bytes document (Err why) is judged =
    IsNoPush.no_indication document why (document_takes indications bytes document is) judged

read_document : (bytes : List ℕ) (read : Result Document DocFault)
    → typed_at indications bytes ≡ read → IsReadAs bytes (push_of read)
read_document bytes (Ok document) is =
    read_indication bytes document (indication_of document) is (judged document)
read_document bytes (Err why) is =
    IsNoPush.no_document why (document_stops indications bytes why is)

-- bytes are read as what they are
pub is_read : (bytes : List ℕ) → IsReadAs bytes (push_at bytes)
is_read bytes = read_document bytes (typed_at indications bytes) refl

-- and as nothing else
pub read_so : (bytes : List ℕ) (read : Result Indication PushFault) → IsReadAs bytes read
    → push_at bytes ≡ read
read_so bytes (Ok pushed) is =
    ap push_of (document_again indications bytes is.document is.spelled)
    ∙ indication_again is.document pushed is.is
read_so bytes (Err why) is = push_fails bytes why is

-- and a fault is the first
pub refused_of : (result : Result Indication PushFault) (bytes : List ℕ)
    → Meets fault.NoMemory (λ pushed. pushed) result (push_at bytes)
    → IfErr result (λ why. why ≢ fault.NoMemory → IsNoPush bytes why)
refused_of (Ok pushed) bytes meets = tt
refused_of (Err why) bytes meets = λ other. subst (IsReadAs bytes) (meets other) (is_read bytes)

pub first_of : (result : Result Indication PushFault) (bytes : List ℕ)
    → Meets fault.NoMemory (λ pushed. pushed) result (push_at bytes)
    → (why : PushFault) → IsNoPush bytes why
    → Meets fault.NoMemory (λ pushed. pushed) result (Err why)
first_of result bytes meets why is =
    subst (Meets fault.NoMemory (λ pushed. pushed) result) (push_fails bytes why is) meets

-- ---- a call that decodes and then reads

-- the answer where the bytes are a document
pub document_read : (bytes : List ℕ) (document : Document) (result : Result Indication PushFault)
    → typed_at indications bytes ≡ Ok document
    → Meets fault.NoMemory (λ pushed. pushed) result (indication_of document)
    → Meets fault.NoMemory (λ pushed. pushed) result (push_at bytes)
document_read bytes document result is meets =
    subst (Meets fault.NoMemory (λ pushed. pushed) result) (sym (ap push_of is)) meets

-- and where they are none
pub document_refused : (bytes : List ℕ) (why : DocFault) (answer : PushFault)
    → answer ≡ push_error why
    → (why ≢ document_fault.NoMemory → typed_at indications bytes ≡ Err why)
    → answer ≢ fault.NoMemory → push_at bytes ≡ Err answer
document_refused bytes why answer is known other =
    ap push_of (known (λ none. other (is ∙ ap push_error none)))
    ∙ ap Err (error_is why (λ none. other (is ∙ none)) ∙ sym is)
  where
    error_is : (why : DocFault) → (push_error why ≡ fault.NoMemory → ⊥)
        → fault.Document why ≡ push_error why
    error_is document_fault.Version other = refl
    error_is document_fault.PublicId other = refl
    error_is document_fault.Charset other = refl
    error_is (document_fault.Short at) other = refl
    error_is (document_fault.Number at) other = refl
    error_is (document_fault.Token at) other = refl
    error_is (document_fault.Index at) other = refl
    error_is (document_fault.Text at) other = refl
    error_is (document_fault.Depth at) other = refl
    error_is (document_fault.Table at) other = refl
    error_is (document_fault.Rest at) other = refl
    error_is document_fault.NoMemory other = absurd (other refl)
