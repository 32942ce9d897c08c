-- Setting several variables, and the variables that a card's fields have when the card is shown
-- (WAP-191, sections 10.3, 11.6.2 and 11.6.3).
use Rattle.std.specs.Prelude.{ℕ, false, if◌then◌else◌, List, [], ◌∷◌, ◌++◌}
use Rattle.std.specs.Prelude.{Option, Some, None, Result, Ok, Err}
use Rattle.std.specs.Option.{option_map, option_map_or, option_to_list}
use Rattle.wap_tokens.specs.declared.markup.deck.Node.{Node}
use Rattle.wap_tokens.specs.declared.markup.name.Tag.TheVariants as tags
use Rattle.wap_tokens.specs.declared.markup.name.AttrName.TheVariants as attrs
use Rattle.wap_tokens.specs.markup.Tables.{is_same_tag}
use Rattle.wap_vars.specs.declared.fault.VarFault.{VarFault}
use Rattle.wap_vars.specs.Variables.{Variables, text_of, removed}
use Rattle.wap_vars.specs.Setting.{set_in}
use Rattle.wap_cardrules.specs.Values.{value_if, Pairs}
use Rattle.wap_cardrules.specs.Fields.{fields_of}
use Rattle.wap_cardrules.specs.Inputs.{input_variable, takes}
use Rattle.wap_cardrules.specs.Selects.{Choice, choice_of, iname_of, name_of}
use Rattle.wap_cardrules.specs.Selects.{index_text, choice_text}

-- ---- several sets

-- the variables after some sets, and why others were refused, in order
pub record Set : Type 0 where
  pub vars : Variables
  pub refused : List VarFault

-- the variables, where nothing was refused
abbrev pub accepted : Variables → Set
accepted vars = record { vars = vars; refused = [] }

-- a set that is refused leaves the variables
abbrev pub set_from : Variables → Result Variables VarFault → Set
set_from vars (Ok more) = accepted more
set_from vars (Err fault) = record { vars = vars; refused = fault ∷ [] }

-- a text under a name, unless it is refused
abbrev pub set_one : Variables → List ℕ × List ℕ → Set
set_one vars pair = set_from vars (set_in vars pair.0 pair.1)

-- one set after the other
abbrev pub set_each : {X : Type 0} → (Variables → X → Set) → Variables → List X → Set
set_each one vars [] = accepted vars
set_each one vars (x ∷ xs) =
    let first = one vars x in
    let others = set_each one first.vars xs in
    record { vars = others.vars; refused = first.refused ++ others.refused }

-- texts under names, in order
abbrev pub set_all : Variables → Pairs → Set
set_all vars pairs = set_each set_one vars pairs

-- ---- defaults

-- an input that has no text that it takes gets its value, if it takes that, and else loses its text
abbrev pub default_text : Variables → Node → Option (List ℕ) → Set
default_text vars input None = accepted (removed vars (input_variable input))
default_text vars input (Some value) =
    if takes vars input value then set_one vars (input_variable input, value)
    else accepted (removed vars (input_variable input))

-- an input keeps a text that it takes, and else gets the one by default
abbrev pub default_input : Variables → Node → Set
default_input vars input =
    if option_map_or (takes vars input) (text_of vars (input_variable input)) false
    then accepted vars
    else default_text vars input (value_if vars attrs.Value input)

-- a name with its text
abbrev pub under : List ℕ → List ℕ → List ℕ × List ℕ
under text name = (name, text)

-- what a choice sets: the variable of iname, and then that of name, where there are such
abbrev pub choice_sets : Variables → Node → Choice → Pairs
choice_sets vars select choice =
    option_to_list (option_map (under (index_text choice)) (iname_of select))
    ++ option_to_list (option_map (under (choice_text vars select choice)) (name_of select))

-- the variables after a choice was set
abbrev pub set_choice : Variables → Node → Choice → Set
set_choice vars select choice = set_all vars (choice_sets vars select choice)

-- the default of a field: of an input, or of a select by what is chosen; a link has none
abbrev pub default : Variables → Node → Set
default vars field =
    if is_same_tag field.tag tags.Input then default_input vars field
    else if is_same_tag field.tag tags.Select then set_choice vars field (choice_of vars field)
    else accepted vars

-- every field in turn
abbrev pub defaults : Variables → Node → Set
defaults vars card = set_each default vars (fields_of card)
