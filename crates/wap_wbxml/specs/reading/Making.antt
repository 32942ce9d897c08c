-- What a builder makes of a document as it is read. This project's own.
use Rattle.std.specs.Prelude.{ℕ, zero, suc, ◌-◌, List, Option, Some, None, Result, Ok}
use Rattle.wap_base.specs.Outcome.{◌>>=◌}
use Rattle.wap_tokens.specs.declared.markup.document.Attr.{Attr}
use Rattle.wap_tokens.specs.declared.markup.document.Document.{Document}
use Rattle.wap_tokens.specs.declared.markup.document.Element.{Element}
use Rattle.wap_tokens.specs.declared.markup.document.Kid.{Kid, out-Kid}
use Rattle.wap_tokens.specs.declared.markup.document.Kid.TheOpen.{Kid-F}
use Rattle.wap_tokens.specs.declared.markup.document.Piece.{Piece}
use Rattle.wap_tokens.specs.declared.markup.document.Token.{Token}
use Rattle.wap_tokens.specs.declared.markup.document.TheConstants.{LEVEL_LIMIT}
use Rattle.wap_tokens.specs.declared.markup.mark.Lead.{Lead}
use Rattle.wap_tokens.specs.declared.markup.mark.Leaf.{Leaf}
use Rattle.wap_tokens.specs.declared.markup.mark.Leaf.TheVariants as leaf
use Rattle.wap_tokens.specs.markup.Codes.{has_attributes, has_content}
use Rattle.wap_tokens.specs.markup.Decks.{KidLevel}
use Rattle.wap_tokens.specs.markup.Documents.{first_state, into_root, out_of_root}
use Rattle.wap_tokens.specs.markup.Grammar.{State}
use Rattle.wap_wbxml.specs.declared.fault.DocFault.{DocFault}
use Rattle.wap_wbxml.specs.Places.{Input}
use Rattle.wap_wbxml.specs.reading.ByteReading.{Reading, told}
use Rattle.wap_wbxml.specs.reading.BodyReading.{when, attributes_at, kids_at, element_at}
use Rattle.wap_wbxml.specs.reading.Gathering.{read_as, gathered}
use Rattle.wap_wbxml.specs.reading.Whole.{outers_at, root_at, all_of_it}

-- what is made of tags, attributes and content, part by part; too_deep is for elements below the
-- levels that documents have, of which nothing is read
pub record Makes (T A R C N W : Type 0) : Type 0 where
  pub tag : ℕ → Token → Option T
  pub root_tag : ℕ → Token → T
  pub attribute : ℕ → Token → A
  pub piece_added : A → Piece → A
  pub no_attributes : R
  pub attribute_added : R → A → R
  pub no_content : C
  pub leaf_added : C → Leaf → C
  pub instruction_added : C → A → C
  pub node : T → R → C → N
  pub node_added : C → N → C
  pub too_deep : C → Element → C
  pub whole : ℕ → ℕ → ℕ → N → W

-- what was read, after which nothing may stand
abbrev pub alone_in : {A : Type 0} → ℕ → Reading A → Result A DocFault
alone_in total read = read >>= all_of_it total

-- a processing instruction outside the root, which is left out
abbrev pub unit : Unit {0}
unit = tt

abbrev pub passed : Unit {0} → Attr → Unit {0}
passed known attr = known

-- those that there are are left out
abbrev pub outers_passed : Input → State → List ℕ → Reading (Unit {0} × State)
outers_passed input before bytes = read_as (λ attrs. unit) (outers_at input before bytes)

module _ {T A R C N W : Type 0} (makes : Makes T A R C N W) where
  -- an attribute with more parts of its value
  abbrev pub pieces_added : A → List Piece → A
  pieces_added attribute pieces = gathered makes.piece_added attribute pieces

  -- an attribute
  abbrev pub attribute_made : Attr → A
  attribute_made attr = pieces_added (makes.attribute attr.page attr.start) attr.value

  -- attributes, and one more
  abbrev pub attribute_added : R → Attr → R
  attribute_added known attr = makes.attribute_added known (attribute_made attr)

  -- the attributes of an element
  abbrev pub attributes_made : List Attr → R
  attributes_made attrs = gathered attribute_added makes.no_attributes attrs

  -- content, and one part more, opened, by what elements in it add
  abbrev pub level_added : (C → Element → C) → C → KidLevel → C
  level_added inner known (Kid-F.Element element) = inner known element
  level_added inner known (Kid-F.Str text) = makes.leaf_added known (leaf.Str text)
  level_added inner known (Kid-F.Entity number) = makes.leaf_added known (leaf.Entity number)
  level_added inner known (Kid-F.Var name conv) = makes.leaf_added known (leaf.Var name conv)
  level_added inner known (Kid-F.Ext number) = makes.leaf_added known (leaf.Ext number)
  level_added inner known (Kid-F.Opaque bytes) = makes.leaf_added known (leaf.Opaque bytes)
  level_added inner known (Kid-F.Pi attr) = makes.instruction_added known (attribute_made attr)

  -- content, and one part more
  abbrev pub kid_added_by : (C → Element → C) → C → Kid → C
  kid_added_by inner known kid = level_added inner known (out-Kid kid)

  -- content, and more parts
  abbrev pub kids_added_by : (C → Element → C) → C → List Kid → C
  kids_added_by inner known kids = gathered (kid_added_by inner) known kids

  -- an element of this tag
  abbrev pub node_by : (C → Element → C) → T → List Attr → List Kid → N
  node_by inner tag attrs kids =
      makes.node tag (attributes_made attrs) (kids_added_by inner makes.no_content kids)

  -- content, and an element: what is made of it where its tag is known, and else its content
  abbrev pub element_added_by : (C → Element → C) → C → Option T → List Attr → List Kid → C
  element_added_by inner known None attrs kids = kids_added_by inner known kids
  element_added_by inner known (Some tag) attrs kids =
      makes.node_added known (node_by inner tag attrs kids)

  -- content, and an element of so many levels
  abbrev pub element_added : ℕ → C → Element → C
  element_added zero known element = makes.too_deep known element
  element_added (suc levels) known element =
      element_added_by (element_added levels) known (makes.tag element.page element.tag)
      element.attrs element.kids

  -- the same of a part, and of parts
  abbrev pub kid_added : ℕ → C → Kid → C
  kid_added levels known kid = kid_added_by (element_added levels) known kid

  abbrev pub kids_added : ℕ → C → List Kid → C
  kids_added levels known kids = gathered (kid_added levels) known kids

  -- a root
  abbrev pub root_made : Element → N
  root_made root =
      node_by (element_added (LEVEL_LIMIT - 1)) (makes.root_tag root.page root.tag) root.attrs
      root.kids

  -- a document
  abbrev pub whole_made : Document → W
  whole_made document =
      makes.whole document.version document.public document.charset (root_made document.root)

  -- an element of this tag, after the byte and the name of its tag
  unfoldable pub node_at : Input → ℕ → T → Lead → State → List ℕ → Reading (N × State)
  node_at input levels tag lead before bytes =
      read_as attributes_made
      (when (has_attributes lead.byte) (attributes_at input) before bytes) >>= λ attributes.
      read_as (makes.node tag attributes.0.0) (read_as (kids_added levels makes.no_content)
      (when (has_content lead.byte) (kids_at input (element_at input levels))
      attributes.0.1 attributes.1))

  -- content, and that of an element whose tag isn't known, after the byte and the name of its tag
  unfoldable pub content_at : Input → ℕ → C → Lead → State → List ℕ → Reading (C × State)
  content_at input levels known lead before bytes =
      read_as attributes_made
      (when (has_attributes lead.byte) (attributes_at input) before bytes) >>= λ attributes.
      read_as (kids_added levels known)
      (when (has_content lead.byte) (kids_at input (element_at input levels))
      attributes.0.1 attributes.1)

  -- the root, between processing instructions that are left out
  unfoldable pub body_made_at : Input → List ℕ → Reading N
  body_made_at input bytes =
      outers_passed input first_state bytes >>= λ before.
      read_as root_made (root_at input (into_root before.0.1) before.1) >>= λ root.
      told (λ after. root.0.0) (outers_passed input (out_of_root root.0.1) root.1)

  -- a document that was read, or the fault that there is none
  abbrev pub all_made : Result Document DocFault → Result W DocFault
  all_made read = read >>= λ document. Ok (whole_made document)
