-- Selects (WAP-191, section 11.6.2): which of their options are chosen. The order in which the
-- texts are tried is this project's own.
use Rattle.std.specs.Prelude.{ℕ, Bool, ◌==◌, nat_le, ◌&&◌, not, map, filter, if◌then◌else◌}
use Rattle.std.specs.Prelude.{unwrap_or, List, [], ◌∷◌, length, Option, Some, None, codes}
use Rattle.std.specs.Option.{option_and_then, option_or}
use Rattle.std.specs.List.{filter_map, list_any, range_with_len, enumerate_from}
use Rattle.std.specs.List.{items_where_true, slice_split, join_with_byte}
use Rattle.std.specs.Fmt.{decimal}
use Rattle.wap_base.specs.Texts.{is_same_text}
use Rattle.wap_base.specs.Ascii.{semicolon, digit_zero}
use Rattle.wap_base.specs.Cuts.{begins_with}
use Rattle.wap_tokens.specs.declared.markup.document.TheConstants.{LEVEL_LIMIT}
use Rattle.wap_tokens.specs.declared.markup.deck.Node.{Node}
use Rattle.wap_tokens.specs.declared.markup.name.Tag.TheVariants as tags
use Rattle.wap_tokens.specs.declared.markup.name.AttrName.TheVariants as attrs
use Rattle.wap_tokens.specs.markup.Tables.{is_same_tag}
use Rattle.wap_tokens.specs.markup.Trees.{value_of}
use Rattle.wap_tokens.specs.markup.Good.{nodes_in}
use Rattle.wap_vars.specs.Variables.{Variables, text_of}
use Rattle.wap_vars.specs.Filling.{value_text}
use Rattle.wap_cardrules.specs.Values.{value_if, is_true, variable_in, number_in}

-- its options, those in groups too, in the order of the document
abbrev pub options_of : Node → List Node
options_of select =
    filter (λ one. is_same_tag one.tag tags.Option) (nodes_in LEVEL_LIMIT select.kids)

-- the values of the options; an absent one is empty
abbrev pub values_of : Variables → Node → List (List ℕ)
values_of vars select =
    map (λ option. value_text vars (value_of attrs.Value option)) (options_of select)

-- how many options a select has
abbrev pub count_of : Node → ℕ
count_of select = length (options_of select)

-- whether several of its options may be chosen
abbrev pub is_multiple : Node → Bool
is_multiple select = is_true attrs.Multiple select

-- for each option whether it is chosen
abbrev pub Choice : Type 0
Choice = List Bool

-- ---- numbers of options, from 1

-- the numbers of so many options
abbrev pub numbers : ℕ → List ℕ
numbers count = range_with_len 1 count

-- whether a number is among some
abbrev pub is_number_among : List ℕ → ℕ → Bool
is_number_among some number = list_any (λ one. one == number) some

-- the options of these numbers, of so many
abbrev pub chosen : ℕ → List ℕ → Choice
chosen count some = map (is_number_among some) (numbers count)

-- the texts between the semicolons of a text
abbrev pub pieces_of : List ℕ → List (List ℕ)
pieces_of text = slice_split (λ c. c == semicolon) text

-- ---- what a text chooses

-- whether a text begins with the digit 0
abbrev pub begins_with_zero : List ℕ → Bool
begins_with_zero piece = begins_with (λ c. c == digit_zero) piece

-- the number of an option, without leading zeros
abbrev pub number_of : ℕ → List ℕ → Option ℕ
number_of count piece =
    if begins_with_zero piece then None
    else option_and_then (λ n. if nat_le n count then Some n else None) (number_in piece)

-- the numbers in an index text, which are joined by `;`; what is no option's number is dropped
abbrev pub numbers_in : ℕ → List ℕ → List ℕ
numbers_in count text = filter_map (number_of count) (pieces_of text)

-- the numbers of the values that are among some texts
abbrev pub numbers_of : List (List ℕ) → List (List ℕ) → List ℕ
numbers_of texts values =
    map (λ one. one.0)
    (filter (λ one. list_any (is_same_text one.1) texts) (enumerate_from 1 values))

-- those that count: all, or the first; none is no choice
abbrev pub choice_if : Bool → ℕ → List ℕ → Option Choice
choice_if multiple count [] = None
choice_if multiple count (first ∷ others) =
    Some (chosen count (if multiple then first ∷ others else first ∷ []))

-- by an index text; in a multiple select `0` chooses nothing
abbrev pub choice_by_index : Node → List ℕ → Option Choice
choice_by_index select text =
    if is_multiple select && is_same_text text (codes "0") then Some (chosen (count_of select) [])
    else choice_if (is_multiple select) (count_of select) (numbers_in (count_of select) text)

-- by a value text, which a multiple select splits at `;`
abbrev pub choice_by_value : Variables → Node → List ℕ → Option Choice
choice_by_value vars select text =
    let texts = if is_multiple select then pieces_of text else text ∷ [] in
    choice_if (is_multiple select) (count_of select) (numbers_of texts (values_of vars select))

-- where no text chooses: the first option, or nothing in a multiple select
abbrev pub first_choice : Node → Choice
first_choice select = chosen (count_of select) (if is_multiple select then [] else 1 ∷ [])

-- ---- the search

-- the variable of iname, for the numbers of the options that are chosen
abbrev pub iname_of : Node → Option (List ℕ)
iname_of select = variable_in attrs.Iname select

-- the variable of name, for the values of the options that are chosen
abbrev pub name_of : Node → Option (List ℕ)
name_of select = variable_in attrs.Name select

-- the text of a variable, where there is one and it is set
abbrev pub set_text : Variables → Option (List ℕ) → Option (List ℕ)
set_text vars name = option_and_then (text_of vars) name

-- the first of four texts that chooses: of the variable of iname, of that of name, ivalue and value
abbrev pub choice_of : Variables → Node → Choice
choice_of vars select = unwrap_or
    (option_or (option_and_then (choice_by_index select) (set_text vars (iname_of select)))
    (option_or (option_and_then (choice_by_value vars select) (set_text vars (name_of select)))
    (option_or (option_and_then (choice_by_index select) (value_if vars attrs.Ivalue select))
    (option_and_then (choice_by_value vars select) (value_if vars attrs.Value select)))))
    (first_choice select)

-- ---- what a choice says

-- joined by `;`
abbrev pub joined : List (List ℕ) → List ℕ
joined texts = join_with_byte semicolon texts

-- numbers, joined by `;`, and 0 for none
abbrev pub index_joined : List (List ℕ) → List ℕ
index_joined [] = codes "0"
index_joined (first ∷ others) = joined (first ∷ others)

-- the numbers of the options that are chosen, and 0 for none
abbrev pub index_text : Choice → List ℕ
index_text choice = index_joined (map decimal (items_where_true choice (numbers (length choice))))

-- their values
abbrev pub choice_text : Variables → Node → Choice → List ℕ
choice_text vars select choice = joined (items_where_true choice (values_of vars select))

-- ---- a choice that changes

-- whether an option is chosen, after it was turned if it is the one
abbrev pub turned_if : Bool → Bool → Bool
turned_if is_it is_chosen = if is_it then not is_chosen else is_chosen

-- with the option of this number chosen or no longer in a multiple select, else chosen alone
abbrev pub choice_with : Node → Choice → ℕ → Choice
choice_with select choice m =
    if is_multiple select then map (λ one. turned_if (one.0 == m) one.1) (enumerate_from 1 choice)
    else chosen (length choice) (m ∷ [])
