-- Content that is read from the left: items with one part more at the end, or one mark. A part
-- joins a text that it follows, and a literal in it. This project's own.
use Rattle.std.specs.Prelude.{List, [], ◌∷◌, ◌++◌, Option, Some, None}
use Rattle.wap_base.specs.declared.name.Part.{Part}
use Rattle.wap_tokens.specs.declared.markup.deck.Item.{Item}
use Rattle.wap_tokens.specs.declared.markup.deck.Item.TheVariants as item
use Rattle.wap_tokens.specs.markup.Trees.{words_of}
use Rattle.wap_tokens.specs.markup.Decks.{before, Mark, part, node}

-- parts and one more; it joins a literal at the end
abbrev pub part_added : List Part → Part → List Part
part_added [] more = more ∷ []
part_added (last ∷ []) more = before last (more ∷ [])
part_added (first ∷ next ∷ parts) more = first ∷ part_added (next ∷ parts) more

-- parts and one more, if there is one
abbrev pub any_added : List Part → Option Part → List Part
any_added parts None = parts
any_added parts (Some more) = part_added parts more

-- an item and one part more
abbrev pub after_last : Item → Option (List Part) → Part → List Item
after_last last None more = last ∷ item.Text (more ∷ []) ∷ []
after_last last (Some parts) more = item.Text (part_added parts more) ∷ []

-- items and one part more; it joins a text at the end
abbrev pub part_after : List Item → Part → List Item
part_after [] more = item.Text (more ∷ []) ∷ []
part_after (last ∷ []) more = after_last last (words_of last) more
part_after (first ∷ next ∷ items) more = first ∷ part_after (next ∷ items) more

-- items and one mark more
abbrev pub mark_after : List Item → Mark → List Item
mark_after items (part more) = part_after items more
mark_after items (node more) = items ++ item.Node more ∷ []

-- items and more marks, one by one
abbrev pub marks_after : List Item → List Mark → List Item
marks_after items [] = items
marks_after items (mark ∷ marks) = marks_after (mark_after items mark) marks
