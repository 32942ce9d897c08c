-- Steps of giving a field its default. This project's own.
use Rattle.std.specs.Prelude.{ℕ, if◌then◌else◌, List, Option, Some, None}
use Rattle.std.specs.Option.{option_and_then}
use Rattle.wap_tokens.specs.declared.markup.deck.Node.{Node}
use Rattle.wap_tokens.specs.declared.markup.name.AttrName.TheVariants as attrs
use Rattle.wap_vars.specs.Variables.{Variables, removed}
use Rattle.wap_cardrules.specs.Values.{value_if}
use Rattle.wap_cardrules.specs.Inputs.{takes}
use Rattle.wap_cardrules.specs.Setting.{Set, set_one, accepted}

-- a text that an input takes
abbrev pub if_taken : Variables → Node → List ℕ → Option (List ℕ)
if_taken vars input value = if takes vars input value then Some value else None

-- the value of an input, if it takes that
abbrev pub taken_value : Variables → Node → Option (List ℕ)
taken_value vars input = option_and_then (if_taken vars input) (value_if vars attrs.Value input)

-- with a text under a name, or without the name
abbrev pub set_or_unset : Variables → List ℕ → Option (List ℕ) → Set
set_or_unset vars name None = accepted (removed vars name)
set_or_unset vars name (Some text) = set_one vars (name, text)
