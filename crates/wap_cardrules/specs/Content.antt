-- What a card or a template has, in the order of the document (WAP-191, sections 11.4 to 11.9):
-- texts, and elements that begin and end. A text counts where one may stand. What stands in a do,
-- an event, a task or a select is no part of it.
use Rattle.std.specs.Prelude.{ℕ, zero, suc, Bool, if◌then◌else◌, List, []}
use Rattle.std.specs.Prelude.{◌∷◌, ◌++◌, Option, Some, None}
use Rattle.std.specs.List.{flat_map, filter_map}
use Rattle.wap_base.specs.declared.name.Part.{Part}
use Rattle.wap_tokens.specs.declared.markup.document.TheConstants.{LEVEL_LIMIT}
use Rattle.wap_tokens.specs.declared.markup.deck.Node.{Node}
use Rattle.wap_tokens.specs.declared.markup.deck.Item.{out-Item}
use Rattle.wap_tokens.specs.declared.markup.deck.Item.TheOpen.{Item-F}
use Rattle.wap_tokens.specs.declared.markup.name.Tag.{Tag}
use Rattle.wap_tokens.specs.declared.markup.name.Tag.TheVariants as tags
use Rattle.wap_tokens.specs.markup.Trees.{ItemLevel}
use Rattle.wap_tokens.specs.markup.Good.{rule_of, is_among}

-- a text, an element that begins, or one that ends
pub data Mark : Type 0 where
  words : List Part → Mark
  begins : Node → Mark
  ends : Node → Mark

-- the content of these shows; each may stand in a card or a template
abbrev pub shown_tags : List Tag
shown_tags =
    tags.P ∷ tags.Pre ∷ tags.Fieldset ∷ tags.Table ∷ tags.Tr ∷ tags.Td ∷ tags.A ∷ tags.Anchor ∷
    tags.Em ∷ tags.Strong ∷ tags.B ∷ tags.I ∷ tags.U ∷ tags.Big ∷ tags.Small ∷ []

-- the marks of an element, with those of what shows in it between its beginning and its end
abbrev pub element_marks : (Node → List Mark) → Node → List Mark
element_marks inner node = begins node ∷ (inner node ++ ends node ∷ [])

-- the marks of an item: of a text where one may stand, of an element
abbrev pub marks_from : (Node → List Mark) → Bool → ItemLevel → List Mark
marks_from inner may_have_text (Item-F.Text parts) = if may_have_text then words parts ∷ [] else []
marks_from inner may_have_text (Item-F.Node node) = element_marks inner node

-- the marks of a node's content, by what shows in the nodes there
abbrev pub kids_marks : (Node → List Mark) → Node → List Mark
kids_marks inner node =
    flat_map (λ kid. marks_from inner (rule_of node.tag).text (out-Item kid)) node.kids

-- what shows of a node, of so many levels
abbrev pub marks_in : ℕ → Node → List Mark
marks_in zero node = []
marks_in (suc levels) node =
    if is_among shown_tags node.tag then kids_marks (marks_in levels) node else []

-- the content of a card or a template, mark after mark
unfoldable pub content_of : Node → List Mark
content_of node = kids_marks (marks_in LEVEL_LIMIT) node

-- the element that begins here, if one does
abbrev pub begun_by : Mark → Option Node
begun_by (begins node) = Some node
begun_by _ = None

-- the elements
abbrev pub elements_of : Node → List Node
elements_of node = filter_map begun_by (content_of node)
