-- Inputs (WAP-191, section 11.6.3): which texts they take, and what they show.
use Rattle.std.specs.Prelude.{ℕ, Bool, true, nat_le, ◌&&◌, ◌||◌, if◌then◌else◌, unwrap_or}
use Rattle.std.specs.Prelude.{replicate, List, [], length, Option, codes}
use Rattle.std.specs.Option.{option_map_or, option_and_then}
use Rattle.wap_base.specs.Texts.{is_same_text}
use Rattle.wap_base.specs.Ascii.{asterisk}
use Rattle.wap_tokens.specs.declared.markup.deck.Node.{Node}
use Rattle.wap_tokens.specs.declared.markup.name.AttrName.TheVariants as attrs
use Rattle.wap_tokens.specs.markup.Trees.{value_of, plain_value}
use Rattle.wap_mask.specs.declared.symbol.Symbol.{Symbol}
use Rattle.wap_mask.specs.Grammar.{any_text}
use Rattle.wap_mask.specs.Calculation.{mask_of, is_taken}
use Rattle.wap_vars.specs.Variables.{Variables, text_of}
use Rattle.wap_vars.specs.Filling.{value_text}
use Rattle.wap_cardrules.specs.Values.{value_if, is_true, is_empty, number_in}

-- its variable
abbrev pub input_variable : Node → List ℕ
input_variable input = unwrap_or (plain_value attrs.Name input) []

-- the text of its variable; where that isn't set, nothing
abbrev pub input_text : Variables → Node → List ℕ
input_text vars input = unwrap_or (text_of vars (input_variable input)) []

-- its mask, without a format that of any text
abbrev pub input_mask : Variables → Node → List Symbol
input_mask vars input = option_map_or mask_of (value_if vars attrs.Format input) any_text

-- the most characters that it takes, where decimal digits say so
abbrev pub maxlength_of : Variables → Node → Option ℕ
maxlength_of vars input = option_and_then number_in (value_if vars attrs.Maxlength input)

-- whether a text has no more characters than an input takes
abbrev pub is_short : Variables → Node → List ℕ → Bool
is_short vars input text = option_map_or (nat_le (length text)) (maxlength_of vars input) true

-- what its mask takes, if it is not too long; and nothing at all, where that is allowed
abbrev pub takes : Variables → Node → List ℕ → Bool
takes vars input text =
    (is_taken (input_mask vars input) text && is_short vars input text)
    || (is_empty text && is_true attrs.Emptyok input)

-- whether an input hides its text
abbrev pub is_password : Variables → Node → Bool
is_password vars input =
    is_same_text (codes "password") (value_text vars (value_of attrs.Type input))

-- a password shows a star for each character
abbrev pub shown_text : Variables → Node → List ℕ
shown_text vars input =
    let text = input_text vars input in
    if is_password vars input then replicate (length text) asterisk else text
