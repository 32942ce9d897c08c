-- The timer of a card (WAP-191, section 11.7): it counts tenths of a second down.
use Rattle.std.specs.Prelude.{ℕ, min, unwrap_or, List, Option, ◌-◌, ◌^◌}
use Rattle.std.specs.Option.{option_map, option_map_or, option_and_then}
use Rattle.wap_tokens.specs.declared.markup.deck.Node.{Node}
use Rattle.wap_tokens.specs.declared.markup.name.Tag.TheVariants as tags
use Rattle.wap_tokens.specs.declared.markup.name.AttrName.TheVariants as attrs
use Rattle.wap_tokens.specs.markup.Trees.{first_with, value_of}
use Rattle.wap_vars.specs.Variables.{Variables, text_of}
use Rattle.wap_vars.specs.Filling.{value_text}
use Rattle.wap_cardrules.specs.Values.{variable_in, number_in}

-- the element
abbrev pub timer_in : Node → Option Node
timer_in card = first_with tags.Timer card.kids

-- its variable, if it has one
abbrev pub timer_variable : Node → Option (List ℕ)
timer_variable timer = variable_in attrs.Name timer

-- the longest time that a timer counts, in tenths of a second
abbrev pub most_time : ℕ
most_time = 2 ^ 32 - 1

-- the time that decimal digits say, and at most the longest; another text says no time
abbrev pub time_in : List ℕ → ℕ
time_in text = option_map_or (min most_time) (number_in text) 0

-- where it starts: the text of its variable, where that is set, else its value
abbrev pub timer_text : Variables → Node → List ℕ
timer_text vars timer =
    unwrap_or (option_and_then (text_of vars) (timer_variable timer))
    (value_text vars (value_of attrs.Value timer))

-- its variable, and where it starts
abbrev pub timer_of : Variables → Node → Option (Option (List ℕ) × ℕ)
timer_of vars card =
    option_map (λ timer. (timer_variable timer, time_in (timer_text vars timer))) (timer_in card)
