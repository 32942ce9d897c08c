-- The dos of a card (WAP-191, sections 9.6 and 9.7).
use Rattle.std.specs.Prelude.{ℕ, Bool, not, map, filter, find, is_some}
use Rattle.std.specs.Prelude.{unwrap_or, List, [], ◌++◌, Option}
use Rattle.std.specs.List.{list_any}
use Rattle.std.specs.Option.{option_map_or, option_and_then}
use Rattle.wap_base.specs.Texts.{is_same_text}
use Rattle.wap_tokens.specs.declared.markup.deck.Deck.{Deck}
use Rattle.wap_tokens.specs.declared.markup.deck.Node.{Node}
use Rattle.wap_tokens.specs.declared.markup.name.Tag.TheVariants as tags
use Rattle.wap_tokens.specs.declared.markup.name.AttrName.TheVariants as attrs
use Rattle.wap_tokens.specs.markup.Tables.{is_same_tag}
use Rattle.wap_tokens.specs.markup.Trees.{value_of}
use Rattle.wap_tokens.specs.markup.Tasks.{task_of}
use Rattle.wap_tokens.specs.markup.Good.{name_of_do}
use Rattle.wap_vars.specs.Variables.{Variables}
use Rattle.wap_vars.specs.Filling.{value_text}
use Rattle.wap_cardrules.specs.declared.task.Task.{Task}
use Rattle.wap_cardrules.specs.Values.{Pairs}
use Rattle.wap_cardrules.specs.Content.{elements_of}
use Rattle.wap_cardrules.specs.Tasks.{task_in}
use Rattle.wap_cardrules.specs.Events.{template_of}

-- the dos of a card or a template, those in paragraphs too
abbrev pub dos_in : Node → List Node
dos_in node = filter (λ one. is_same_tag one.tag tags.Do) (elements_of node)

-- the name of a do, or else its type
abbrev pub do_name : Node → List ℕ
do_name node = unwrap_or (name_of_do node) []

-- whether one of the dos has this name
abbrev pub has_do : List ℕ → List Node → Bool
has_do name dos = list_any (λ one. is_same_text name (do_name one)) dos

-- the dos of the template whose name none of a card's own dos has
abbrev pub others_beside : Deck → List Node → List Node
others_beside deck own =
    filter (λ one. not (has_do (do_name one) own)) (option_map_or dos_in (template_of deck) [])

-- a card's own dos and then those others, but no noop
abbrev pub active_beside : Deck → List Node → List Node
active_beside deck own = filter (λ one. is_some (task_of one)) (own ++ others_beside deck own)

-- the active dos of a card
abbrev pub active_dos : Deck → Node → List Node
active_dos deck card = active_beside deck (dos_in card)

-- the label of a do, filled; without one, nothing
abbrev pub label_of : Variables → Node → List ℕ
label_of vars node = value_text vars (value_of attrs.Label node)

-- the names and labels of the active dos of a card that has these dos of its own
abbrev pub labels_beside : Variables → Deck → List Node → Pairs
labels_beside vars deck own =
    map (λ one. (do_name one, label_of vars one)) (active_beside deck own)

-- those of a card
abbrev pub do_labels : Variables → Deck → Node → Pairs
do_labels vars deck card = labels_beside vars deck (dos_in card)

-- the task of the active do of this name
abbrev pub do_task : Variables → Deck → Node → List ℕ → Option Task
do_task vars deck card name =
    option_and_then (task_in vars)
    (find (λ one. is_same_text name (do_name one)) (active_dos deck card))
