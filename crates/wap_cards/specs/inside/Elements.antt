-- The elements that are looked for, among marks. This project's own.
use Rattle.std.specs.Prelude.{Bool, List, filter}
use Rattle.std.specs.List.{filter_map}
use Rattle.wap_tokens.specs.declared.markup.deck.Node.{Node}
use Rattle.wap_tokens.specs.declared.markup.name.Tag.TheVariants as tags
use Rattle.wap_tokens.specs.markup.Tables.{is_same_tag}
use Rattle.wap_cardrules.specs.Content.{Mark, begun_by}
use Rattle.wap_cardrules.specs.Fields.{is_field}
use Rattle.wap_cards.specs.declared.elements.Sought.{Sought}
use Rattle.wap_cards.specs.declared.elements.Sought.TheVariants as sought

-- whether an element is looked for
abbrev pub is_sought : Sought → Node → Bool
is_sought sought.Fields node = is_field node.tag
is_sought sought.Dos node = is_same_tag node.tag tags.Do

-- those that begin among some marks
abbrev pub sought_among : Sought → List Mark → List Node
sought_among kind marks = filter (is_sought kind) (filter_map begun_by marks)
