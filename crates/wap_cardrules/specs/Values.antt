-- What the values of attributes say (WAP-191, section 11).
use Rattle.std.specs.Prelude.{ℕ, Bool, not, ◌&&◌, ◌==◌, if◌then◌else◌, List}
use Rattle.std.specs.Prelude.{length, Option, Some, None, codes}
use Rattle.std.specs.Option.{option_map, option_and_then}
use Rattle.std.specs.List.{list_all}
use Rattle.std.specs.Char.{is_ascii_digit}
use Rattle.std.specs.Str.Parse.{digits_value}
use Rattle.wap_tokens.specs.declared.markup.deck.Node.{Node}
use Rattle.wap_tokens.specs.declared.markup.name.AttrName.{AttrName}
use Rattle.wap_tokens.specs.markup.Trees.{value_of, plain_value, is_text}
use Rattle.wap_vars.specs.Variables.{Variables}
use Rattle.wap_vars.specs.Filling.{filled}

-- the value of an attribute, filled, if the node has the attribute
abbrev pub value_if : Variables → AttrName → Node → Option (List ℕ)
value_if vars name node = option_map (filled vars) (value_of name node)

-- the attribute is `true`
abbrev pub is_true : AttrName → Node → Bool
is_true name node = is_text (codes "true") (plain_value name node)

-- whether a text has no character
abbrev pub is_empty : List ℕ → Bool
is_empty text = length text == 0

-- a text that has a character
abbrev pub unless_empty : List ℕ → Option (List ℕ)
unless_empty text = if is_empty text then None else Some text

-- the name of a variable; the empty name is none
abbrev pub variable_in : AttrName → Node → Option (List ℕ)
variable_in name node = option_and_then unless_empty (plain_value name node)

-- the number that decimal digits write, if there is nothing else
abbrev pub number_in : List ℕ → Option ℕ
number_in text =
    if not (is_empty text) && list_all is_ascii_digit text then Some (digits_value 10 text)
    else None

-- names, each with a text
abbrev pub Pairs : Type 0
Pairs = List (List ℕ × List ℕ)
