-- The fields of a card (WAP-191, sections 9.8, 9.9 and 11.6): links, inputs and selects, which are
-- numbered together from 1 in the order of the document. The numbers are this project's own.
use Rattle.std.specs.Prelude.{ℕ, zero, suc, Bool, filter, slice_get, if◌then◌else◌}
use Rattle.std.specs.Prelude.{List, [], ◌∷◌, Option, Some, None}
use Rattle.std.specs.Option.{option_and_then}
use Rattle.wap_tokens.specs.declared.markup.deck.Node.{Node}
use Rattle.wap_tokens.specs.declared.markup.name.Tag.{Tag}
use Rattle.wap_tokens.specs.declared.markup.name.Tag.TheVariants as tags
use Rattle.wap_tokens.specs.declared.markup.name.AttrName.TheVariants as attrs
use Rattle.wap_tokens.specs.markup.Tables.{is_same_tag}
use Rattle.wap_tokens.specs.markup.Trees.{value_of, if_tagged}
use Rattle.wap_tokens.specs.markup.Good.{is_among}
use Rattle.wap_vars.specs.Variables.{Variables}
use Rattle.wap_vars.specs.Filling.{value_text}
use Rattle.wap_cardrules.specs.declared.task.Task.{Task}
use Rattle.wap_cardrules.specs.Content.{elements_of}
use Rattle.wap_cardrules.specs.Tasks.{go_to, task_in}

-- whether elements of this tag have numbers
abbrev pub is_field : Tag → Bool
is_field tag = is_among (tags.A ∷ tags.Anchor ∷ tags.Input ∷ tags.Select ∷ []) tag

-- the fields of a card, in the order of the document
abbrev pub fields_of : Node → List Node
fields_of card = filter (λ node. is_field node.tag) (elements_of card)

-- the item of this number, from 1
abbrev pub numbered : {X : Type 0} → List X → ℕ → Option X
numbered xs zero = None
numbered xs (suc n) = slice_get xs n

-- the field of this number, if it has this tag
abbrev pub field_with : Tag → Node → ℕ → Option Node
field_with tag card n = if_tagged tag (numbered (fields_of card) n)

-- the task of a link
abbrev pub task_of_link : Variables → Node → Option Task
task_of_link vars field =
    if is_same_tag field.tag tags.A then Some (go_to (value_text vars (value_of attrs.Href field)))
    else if is_same_tag field.tag tags.Anchor then task_in vars field
    else None

-- the task of the field of a number, if that is a link
abbrev pub link_task : Variables → Node → ℕ → Option Task
link_task vars card n = option_and_then (task_of_link vars) (numbered (fields_of card) n)
