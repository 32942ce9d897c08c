-- Which task an event sets off (WAP-191, section 9.10): in an element its first onevent of the type
-- comes before the attribute, and a card's binding before its template's. A noop hides them, and is
-- none.
use Rattle.std.specs.Prelude.{ℕ, find, List, Option, Some, codes}
use Rattle.std.specs.List.{filter_map}
use Rattle.std.specs.Option.{option_map, option_and_then, option_or, option_flatten}
use Rattle.wap_tokens.specs.declared.markup.deck.Deck.{Deck}
use Rattle.wap_tokens.specs.declared.markup.deck.Node.{Node}
use Rattle.wap_tokens.specs.declared.markup.name.Tag.TheVariants as tags
use Rattle.wap_tokens.specs.declared.markup.name.AttrName.{AttrName}
use Rattle.wap_tokens.specs.declared.markup.name.AttrName.TheVariants as attrs
use Rattle.wap_tokens.specs.markup.Trees.{node_with, first_with, is_text}
use Rattle.wap_tokens.specs.markup.Cards.{type_of}
use Rattle.wap_vars.specs.Variables.{Variables}
use Rattle.wap_cardrules.specs.declared.event.Event.{Event}
use Rattle.wap_cardrules.specs.declared.event.Event.TheVariants.{Forward, Backward, Timer}
use Rattle.wap_cardrules.specs.declared.task.Task.{Task}
use Rattle.wap_cardrules.specs.Values.{value_if}
use Rattle.wap_cardrules.specs.Tasks.{go_to, task_in}

-- an event as an element names it: by the type of an onevent, or by an attribute
pub record Named : Type 0 where
  pub type : List ℕ
  pub attribute : AttrName

-- the names of a card's events
abbrev pub named : Event → Named
named Forward = record { type = codes "onenterforward"; attribute = attrs.Onenterforward }
named Backward = record { type = codes "onenterbackward"; attribute = attrs.Onenterbackward }
named Timer = record { type = codes "ontimer"; attribute = attrs.Ontimer }

-- the event of an option
abbrev pub pick_event : Named
pick_event = record { type = codes "onpick"; attribute = attrs.Onpick }

-- the binding of an event in one element, if there is one, and its task, if that is no noop
abbrev pub onevent_for : Named → Node → Option Node
onevent_for event node =
    find (λ one. is_text event.type (type_of one)) (filter_map (node_with tags.Onevent) node.kids)

-- what is bound to an event in one element: the task of its onevent, or a go to its attribute
abbrev pub bound_in : Variables → Named → Node → Option (Option Task)
bound_in vars event node = option_or
    (option_map (task_in vars) (onevent_for event node))
    (option_map (λ href. Some (go_to href)) (value_if vars event.attribute node))

-- the template of a deck
abbrev pub template_of : Deck → Option Node
template_of deck = first_with tags.Template deck.root.kids

-- the task that the event of a card sets off
abbrev pub binding : Variables → Deck → Node → Event → Option Task
binding vars deck card event = option_flatten (option_or
    (bound_in vars (named event) card)
    (option_and_then (bound_in vars (named event)) (template_of deck)))

-- the task that an option sets off when it is chosen
abbrev pub onpick : Variables → Node → Option Task
onpick vars option = option_flatten (bound_in vars pick_event option)
