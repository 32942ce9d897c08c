-- What a builder makes of an element: a node, or its content.
use Rattle.std.proofs.Common.{◌≡◌, ℕ, zero, suc, ◌-◌, ◌<◌, List, Option, Some, None}
use Rattle.std.proofs.Common.{Ok, Err, refl, ap, ◌∙◌, arith}
use Rattle.wap_base.specs.Outcome.{◌>>=◌}
use Rattle.wap_tokens.specs.declared.markup.document.Attr.{Attr}
use Rattle.wap_tokens.specs.declared.markup.document.Element.{Element}
use Rattle.wap_tokens.specs.declared.markup.document.Kid.{Kid}
use Rattle.wap_tokens.specs.declared.markup.document.Token.{Token}
use Rattle.wap_tokens.specs.declared.markup.document.TheConstants.{LEVEL_LIMIT}
use Rattle.wap_tokens.specs.declared.markup.mark.Lead.{Lead}
use Rattle.wap_tokens.specs.markup.Codes.{is_named, has_attributes, has_content}
use Rattle.wap_tokens.specs.markup.Grammar.{State, on_tag_page, element_of}
use Rattle.wap_wbxml.specs.declared.fault.DocFault.{DocFault}
use Rattle.wap_wbxml.specs.Places.{Input}
use Rattle.wap_wbxml.specs.reading.ByteReading.{Reading, told}
use Rattle.wap_wbxml.specs.reading.BodyReading.{tag_at, when, attributes_at, kids_at}
use Rattle.wap_wbxml.specs.reading.BodyReading.{element_by, element_at}
use Rattle.wap_wbxml.specs.reading.Gathering.{read_as}
use Rattle.wap_wbxml.specs.reading.Making.{Makes, attributes_made, element_added, element_added_by}
use Rattle.wap_wbxml.specs.reading.Making.{kids_added, root_made, node_at, content_at}

module _ {T A R C N W : Type 0} (makes : Makes T A R C N W) (levels : ℕ) (lead : Lead)
    (token : Token) where
  -- an element of this tag
  abbrev made : List Attr → List Kid → Element
  made attrs kids = record { page = lead.page; tag = token; attrs = attrs; kids = kids }

  -- what is said of an element is what is said of the node with its tag
  abbrev Agree : {B : Type 0} → T → (Element → B) → (N → B) → Type 0
  Agree {B = B} tag make other =
      (attrs : List Attr) (kids : List Kid)
      → make (made attrs kids) ≡ other (makes.node tag (attributes_made makes attrs)
      (kids_added makes levels makes.no_content kids))

  -- a node by what is read as its content
  node_kids : {B : Type 0} (tag : T) (make : Element → B) (other : N → B)
      → Agree tag make other → (attrs : List Attr) (kids : Reading (List Kid × State))
      → read_as make (told (element_of lead token attrs) kids)
      ≡ read_as other (read_as (makes.node tag (attributes_made makes attrs))
      (read_as (kids_added makes levels makes.no_content) kids))
  node_kids {B = B} tag make other agree attrs (Ok x) =
      ap (λ (y : B). Ok ((y, x.0.1), x.1)) (agree attrs x.0.0)
  node_kids tag make other agree attrs (Err fault) = refl

  -- a node by what is read as its attributes and its content
  node_read : {B : Type 0} (tag : T) (make : Element → B) (other : N → B)
      → Agree tag make other → (attributes : Reading (List Attr × State))
      (kids : State → List ℕ → Reading (List Kid × State))
      → read_as make (attributes >>= λ a. told (element_of lead token a.0.0) (kids a.0.1 a.1))
      ≡ read_as other (read_as (attributes_made makes) attributes >>= λ a.
      read_as (makes.node tag a.0.0)
      (read_as (kids_added makes levels makes.no_content) (kids a.0.1 a.1)))
  node_read tag make other agree (Ok x) kids =
      node_kids tag make other agree x.0.0 (kids x.0.1 x.1)
  node_read tag make other agree (Err fault) kids = refl

  -- an element whose tag isn't known gives its content
  unknown_kids : (known : C) → makes.tag lead.page token ≡ None → (attrs : List Attr)
      (kids : Reading (List Kid × State))
      → read_as (element_added makes (suc levels) known) (told (element_of lead token attrs) kids)
      ≡ read_as (kids_added makes levels known) kids
  unknown_kids known unknown attrs (Ok x) =
      ap (λ (tag : Option T). Ok (
        (
          element_added_by makes (element_added makes levels) known tag attrs x.0.0,
          x.0.1,
        ),
        x.1,
      )) unknown
  unknown_kids known unknown attrs (Err fault) = refl

  -- the same, whatever is read as its attributes
  unknown_read : (known : C) → makes.tag lead.page token ≡ None
      → (attributes : Reading (List Attr × State))
      (kids : State → List ℕ → Reading (List Kid × State))
      → read_as (element_added makes (suc levels) known)
      (attributes >>= λ a. told (element_of lead token a.0.0) (kids a.0.1 a.1))
      ≡ (read_as (attributes_made makes) attributes >>= λ a.
      read_as (kids_added makes levels known) (kids a.0.1 a.1))
  unknown_read known unknown (Ok x) kids =
      unknown_kids known unknown x.0.0 (kids x.0.1 x.1)
  unknown_read known unknown (Err fault) kids = refl

module _ {T A R C N W : Type 0} (makes : Makes T A R C N W) (input : Input) (levels : ℕ)
    (before after : State) (lead : Lead) (token : Token) (bytes rest : List ℕ) where
  -- this token is the tag that is read
  abbrev Tagged : Type 0
  Tagged =
      tag_at input (on_tag_page lead.page before) lead.byte (is_named lead.byte) bytes
      ≡ Ok ((token, after), rest)

  -- an element after its tag
  parts_read : {B : Type 0} (make : Element → B) → Tagged
      → read_as make (element_by input (element_at input levels) before lead bytes)
      ≡ read_as make (when (has_attributes lead.byte) (attributes_at input) after rest >>= λ a.
      told (element_of lead token a.0.0)
      (when (has_content lead.byte) (kids_at input (element_at input levels)) a.0.1 a.1))
  unfolding element_by
  parts_read make tagged =
      ap (λ (tag : Reading (Token × State)). read_as make (tag >>= λ tag.
      when (has_attributes lead.byte) (attributes_at input) tag.0.1 tag.1 >>= λ attributes.
      told (element_of lead tag.0.0 attributes.0.0)
      (when (has_content lead.byte) (kids_at input (element_at input levels))
      attributes.0.1 attributes.1))) tagged

  -- an element as a node of this tag
  pub node_element : {B : Type 0} (tag : T) (make : Element → B) (other : N → B) → Tagged
      → Agree makes levels lead token tag make other
      → read_as make (element_by input (element_at input levels) before lead bytes)
      ≡ read_as other (node_at makes input levels tag lead after rest)
  unfolding node_at
  node_element tag make other tagged agree =
      parts_read make tagged ∙ node_read makes levels lead token tag make other agree
      (when (has_attributes lead.byte) (attributes_at input) after rest)
      (when (has_content lead.byte) (kids_at input (element_at input levels)))

  -- an element whose tag is known
  pub known_element : (known : C) (tag : T) → Tagged → makes.tag lead.page token ≡ Some tag
      → read_as (element_added makes (suc levels) known)
      (element_by input (element_at input levels) before lead bytes)
      ≡ read_as (makes.node_added known) (node_at makes input levels tag lead after rest)
  known_element known tag tagged is =
      node_element tag (element_added makes (suc levels) known) (makes.node_added known) tagged
      (λ attrs kids. ap (λ (tag : Option T).
      element_added_by makes (element_added makes levels) known tag attrs kids) is)

  -- an element whose tag isn't known
  pub unknown_element : (known : C) → Tagged → makes.tag lead.page token ≡ None
      → read_as (element_added makes (suc levels) known)
      (element_by input (element_at input levels) before lead bytes)
      ≡ content_at makes input levels known lead after rest
  unfolding content_at
  unknown_element known tagged unknown =
      parts_read (element_added makes (suc levels) known) tagged
      ∙ unknown_read makes levels lead token known unknown
      (when (has_attributes lead.byte) (attributes_at input) after rest)
      (when (has_content lead.byte) (kids_at input (element_at input levels)))

module _ {T A R C N W : Type 0} (makes : Makes T A R C N W) (input : Input) (before : State)
    (lead : Lead) (bytes : List ℕ) where
  -- a node as it is read
  same_node : (read : Reading (N × State)) → read_as (λ node. node) read ≡ read
  same_node (Ok x) = refl
  same_node (Err fault) = refl

  -- the root, whose content has one level less
  pub root_element : (after : State) (token : Token) (rest : List ℕ)
      → Tagged makes input (LEVEL_LIMIT - 1) before after lead token bytes rest
      → read_as (root_made makes) (element_at input LEVEL_LIMIT before lead bytes)
      ≡ node_at makes input (LEVEL_LIMIT - 1) (makes.root_tag lead.page token) lead after rest
  unfolding element_at
  root_element after token rest tagged =
      let levels = LEVEL_LIMIT - 1 in
      let tag = makes.root_tag lead.page token in
      node_element makes input levels before after lead token bytes rest tag (root_made makes)
      (λ node. node) tagged (λ attrs kids. refl)
      ∙ same_node (node_at makes input levels tag lead after rest)

  -- the root, whose tag is refused
  pub root_stopped : (fault : DocFault)
      → tag_at input (on_tag_page lead.page before) lead.byte (is_named lead.byte) bytes ≡ Err fault
      → read_as (root_made makes) (element_at input LEVEL_LIMIT before lead bytes) ≡ Err fault
  unfolding element_at element_by
  root_stopped fault stopped =
      let levels = LEVEL_LIMIT - 1 in
      ap (λ (tag : Reading (Token × State)). read_as (root_made makes) (tag >>= λ tag.
      when (has_attributes lead.byte) (attributes_at input) tag.0.1 tag.1 >>= λ attributes.
      told (element_of lead tag.0.0 attributes.0.0)
      (when (has_content lead.byte) (kids_at input (element_at input levels))
      attributes.0.1 attributes.1))) stopped

  -- an element of so many levels, by what is in it
  pub deeper : (levels : ℕ) (known : C) → 0 < levels
      → read_as (element_added makes (suc (levels - 1)) known)
      (element_by input (element_at input (levels - 1)) before lead bytes)
      ≡ read_as (element_added makes levels known) (element_at input levels before lead bytes)
  unfolding element_at
  deeper zero known some = absurd (omega arith)
  deeper (suc levels) known some =
      let less : suc levels - 1 ≡ levels = omega arith in
      ap (λ (n : ℕ). read_as (element_added makes (suc n) known)
      (element_by input (element_at input n) before lead bytes)) less
