-- Which indication a document is, and why it is none (WAP-167, sections 5.1 and 5.2; the order of
-- the faults is this project's own).
use Rattle.std.specs.Prelude.{◌≡◌, ℕ, Bool, true, false, List, [], ◌∷◌, Some, None}
use Rattle.wap_tokens.specs.declared.markup.document.Document.{Document}
use Rattle.wap_tokens.specs.declared.markup.document.Element.{Element}
use Rattle.wap_push.specs.declared.indication.Indication.{Indication}
use Rattle.wap_push.specs.declared.names.PushTag.TheVariants as tag
use Rattle.wap_push.specs.declared.fault.PushFault.{PushFault}
use Rattle.wap_push.specs.declared.fault.PushFault.TheVariants as fault
use Rattle.wap_push.specs.Fields.{elements_of, is_tagged, content_text, action_of, href_of}
use Rattle.wap_push.specs.Fields.{identifier_of, created_of}

-- whether the root is that of an indication
abbrev pub is_si : Document → Bool
is_si document = is_tagged tag.Si document.root

-- whether these are at most one `info`
abbrev pub is_info : List Element → Bool
is_info [] = true
is_info (info ∷ []) = is_tagged tag.Info info
is_info _ = false

-- the root has one indication, in which there is no element, and after it at most one `info`
pub record IsBody (document : Document) (body : Element) : Type 0 where
  pub others : List Element
  pub elements : elements_of document.root.kids ≡ body ∷ others
  pub indication : is_tagged tag.Indication body ≡ true
  pub info : is_info others ≡ true
  pub plain : elements_of body.kids ≡ []

-- the document is this indication
pub record IsIndication (document : Document) (pushed : Indication) : Type 0 where
  pub root : is_si document ≡ true
  pub body : Element
  pub child : IsBody document body
  pub created : created_of body.attrs ≡ Some pushed.created
  pub id : identifier_of body.attrs ≡ Some pushed.id
  pub href : pushed.href ≡ href_of body.attrs
  pub action : pushed.action ≡ action_of body.attrs
  pub text : pushed.text ≡ content_text body.kids

-- the time of an indication can't be one
pub record IsUndated (document : Document) : Type 0 where
  pub root : is_si document ≡ true
  pub body : Element
  pub child : IsBody document body
  pub created : created_of body.attrs ≡ None

-- an indication has a time, and nothing to tell it from others
pub record IsNameless (document : Document) : Type 0 where
  pub root : is_si document ≡ true
  pub body : Element
  pub child : IsBody document body
  pub time : ℕ
  pub created : created_of body.attrs ≡ Some time
  pub id : identifier_of body.attrs ≡ None

-- the document is no indication, and this is the first reason
abbrev pub IsRefused : Document → PushFault → Type 0
IsRefused document fault.Root = is_si document ≡ false
IsRefused document fault.Child =
    (is_si document ≡ true) × ((body : Element) → IsBody document body → ⊥)
IsRefused document fault.Created = IsUndated document
IsRefused document fault.NoId = IsNameless document
IsRefused document (fault.Document why) = ⊥
IsRefused document fault.NoMemory = ⊥
