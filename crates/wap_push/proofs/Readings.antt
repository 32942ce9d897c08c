-- What the reading gives is what the relations say.
use Rattle.std.proofs.Common.{◌≡◌, ◌≢◌, ℕ, true, List, [], ◌∷◌}
use Rattle.std.proofs.Common.{Option, Some, None, Ok, Err, refl, subst, ◌&&◌}
use Rattle.std.specs.Prelude.{Result, IfOk, IfErr}
use Rattle.std.proofs.lemmas.Bool.{and_parts}
use Rattle.std.proofs.lemmas.Option.{cond_some}
use Rattle.wap_base.specs.Outcome.{Meets}
use Rattle.wap_tokens.specs.declared.markup.document.Document.{Document}
use Rattle.wap_tokens.specs.declared.markup.document.Element.{Element}
use Rattle.wap_push.specs.declared.indication.Indication.{Indication}
use Rattle.wap_push.specs.declared.names.PushTag.TheVariants as tag
use Rattle.wap_push.specs.declared.fault.PushFault.{PushFault}
use Rattle.wap_push.specs.declared.fault.PushFault.TheVariants as fault
use Rattle.wap_push.specs.Fields.{elements_of, is_tagged, created_of, identifier_of}
use Rattle.wap_push.specs.Indications.{is_si, is_info, IsBody, IsIndication, IsRefused}
use Rattle.wap_push.specs.Calculation.{is_none, body_in, named, dated}

-- no element
nothing : (elements : List Element) → is_none elements ≡ true → elements ≡ []
nothing [] none = refl
nothing (e ∷ es) none = absurd (cc none)

body_at : (document : Document) (body : Element) (elements : List Element)
    → elements_of document.root.kids ≡ elements → body_in elements ≡ Some body
    → IsBody document body
body_at document body [] are found = absurd (cc found)
body_at document body (first ∷ others) are found =
    let test =
    cond_some
    (is_tagged tag.Indication first && (is_info others && is_none (elements_of first.kids)))
    first body found in
    let parts =
    and_parts (is_tagged tag.Indication first)
    (is_info others && is_none (elements_of first.kids)) test.0 in
    let rest = and_parts (is_info others) (is_none (elements_of first.kids)) parts.1 in
    subst (IsBody document) test.1 (record {
      others = others;
      elements = are;
      indication = parts.0;
      info = rest.0;
      plain = nothing (elements_of first.kids) rest.1;
    })

-- the indication's element is found where the elements are as they have to be
pub body_found : (document : Document) (body : Element)
    → body_in (elements_of document.root.kids) ≡ Some body → IsBody document body
body_found document body found =
    body_at document body (elements_of document.root.kids) refl found

module _ (document : Document) (body : Element) (created : ℕ) (root : is_si document ≡ true)
    (child : IsBody document body)
    (time : created_of body.attrs ≡ Some created) where
  pub indication_named : (id : Option (List ℕ)) → identifier_of body.attrs ≡ id
      → (pushed : Indication) → named body created id ≡ Ok pushed → IsIndication document pushed
  indication_named None id_is pushed given = absurd (cc given)
  indication_named (Some id) id_is pushed given =
      let same : _ ≡ pushed = cc given in
      subst (IsIndication document) same (record {
        root = root;
        body = body;
        child = child;
        created = time;
        id = id_is;
        href = refl;
        action = refl;
        text = refl;
      })

  pub nameless : (id : Option (List ℕ)) → identifier_of body.attrs ≡ id
      → (why : PushFault) → named body created id ≡ Err why → IsRefused document why
  nameless None id_is why given =
      let same : fault.NoId ≡ why = cc given in
      subst (IsRefused document) same (record {
        root = root;
        body = body;
        child = child;
        time = created;
        created = time;
        id = id_is;
      })
  nameless (Some id) id_is why given = absurd (cc given)

  -- an indication that is given is the document's
  pub indication_given : (result : Result Indication PushFault)
      → Meets fault.NoMemory (λ pushed. pushed) result (dated body (Some created))
      → IfOk result (λ pushed. IsIndication document pushed)
  indication_given (Ok pushed) meets =
      indication_named (identifier_of body.attrs) refl pushed meets
  indication_given (Err why) meets = tt

  -- a fault that is given is the first
  pub fault_given : (result : Result Indication PushFault)
      → Meets fault.NoMemory (λ pushed. pushed) result (dated body (Some created))
      → IfErr result (λ why. why ≢ fault.NoMemory → IsRefused document why)
  fault_given (Ok pushed) meets = tt
  fault_given (Err why) meets = λ known.
      nameless (identifier_of body.attrs) refl why (meets known)
