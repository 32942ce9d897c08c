-- The same by calculation: the indication that a document is, or the first fault.
use Rattle.std.specs.Prelude.{ℕ, Bool, ◌&&◌, if◌then◌else◌, List, [], ◌∷◌, Option, Some, None}
use Rattle.std.specs.Prelude.{Result, Ok, Err, true, false}
use Rattle.wap_tokens.specs.declared.markup.document.Document.{Document}
use Rattle.wap_tokens.specs.declared.markup.document.Element.{Element}
use Rattle.wap_push.specs.declared.indication.Indication.{Indication}
use Rattle.wap_push.specs.declared.names.PushTag.TheVariants as tag
use Rattle.wap_push.specs.declared.fault.PushFault.{PushFault}
use Rattle.wap_push.specs.declared.fault.PushFault.TheVariants as fault
use Rattle.wap_push.specs.Fields.{elements_of, is_tagged, content_text, action_of, href_of}
use Rattle.wap_push.specs.Fields.{identifier_of, created_of}
use Rattle.wap_push.specs.Indications.{is_si, is_info}

-- whether there is no element
abbrev pub is_none : List Element → Bool
is_none [] = true
is_none _ = false

-- the indication's element, by the elements in the root
abbrev pub body_in : List Element → Option Element
body_in [] = None
body_in (body ∷ others) =
    if is_tagged tag.Indication body && (is_info others && is_none (elements_of body.kids))
    then Some body else None

-- the indication of an element with this time and this identifier
abbrev pub named : Element → ℕ → Option (List ℕ) → Result Indication PushFault
named body created None = Err fault.NoId
named body created (Some id) = Ok (record {
  id = id;
  href = href_of body.attrs;
  created = created;
  action = action_of body.attrs;
  text = content_text body.kids;
})

-- the indication of an element with this time
abbrev pub dated : Element → Option ℕ → Result Indication PushFault
dated body None = Err fault.Created
dated body (Some created) = named body created (identifier_of body.attrs)

-- the indication of an element
abbrev pub indication_in : Option Element → Result Indication PushFault
indication_in None = Err fault.Child
indication_in (Some body) = dated body (created_of body.attrs)

-- the indication that a document is, or the first fault
abbrev pub indication_of : Document → Result Indication PushFault
indication_of document =
    if is_si document then indication_in (body_in (elements_of document.root.kids))
    else Err fault.Root
