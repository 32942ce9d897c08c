-- Onevents, looked for by their type. This project's own.
use Rattle.std.specs.Prelude.{ℕ, Bool, ◌&&◌, find, List, Option}
use Rattle.std.specs.List.{filter_map}
use Rattle.wap_tokens.specs.declared.markup.deck.Node.{Node}
use Rattle.wap_tokens.specs.declared.markup.deck.Item.{Item}
use Rattle.wap_tokens.specs.declared.markup.name.Tag.TheVariants as tags
use Rattle.wap_tokens.specs.markup.Tables.{is_same_tag}
use Rattle.wap_tokens.specs.markup.Trees.{node_with, is_text}
use Rattle.wap_tokens.specs.markup.Cards.{type_of}

abbrev pub is_onevent : List ℕ → Node → Bool
is_onevent kind node = is_same_tag node.tag tags.Onevent && is_text kind (type_of node)

-- the first of a type among some items
abbrev pub onevent_in : List ℕ → List Item → Option Node
onevent_in kind items =
    find (λ one. is_text kind (type_of one)) (filter_map (node_with tags.Onevent) items)
