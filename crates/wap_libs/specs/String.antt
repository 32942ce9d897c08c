-- The library String (WAP-194, "String"). Places and counts are of characters, from 0.
use Rattle.std.specs.Prelude.{slice_get, option_and_then, Option, Some, None, ℕ}
use Rattle.std.specs.Prelude.{if◌then◌else◌, List, [], length, ℤ, pos, negsuc}
use Rattle.std.specs.declared.cmp.Ordering.{Ordering}
use Rattle.std.specs.declared.cmp.Ordering.TheVariants.{Less, Equal, Greater}
use Rattle.wap_base.specs.Texts.{is_empty}
use Rattle.wap_base.specs.Texts.{text_cmp}
use Rattle.wap_value.specs.declared.value.Value.{Value}
use Rattle.wap_value.specs.declared.value.Value.TheVariants.{Int, Bool as Boolean, Str, Invalid}
use Rattle.wap_value.specs.Conversion.{text_of, text_value}
use Rattle.wap_value.specs.Unary.{is_valid}
use Rattle.wap_libs.specs.declared.function.StringFunction.{StringFunction}
use Rattle.wap_libs.specs.declared.function.StringFunction.TheVariants.{Length, IsEmpty, CharAt}
use Rattle.wap_libs.specs.declared.function.StringFunction.TheVariants.{SubString, Find, Replace}
use Rattle.wap_libs.specs.declared.function.StringFunction.TheVariants.{Elements, ElementAt}
use Rattle.wap_libs.specs.declared.function.StringFunction.TheVariants.{RemoveAt, ReplaceAt}
use Rattle.wap_libs.specs.declared.function.StringFunction.TheVariants.{InsertAt, Squeeze, Trim}
use Rattle.wap_libs.specs.declared.function.StringFunction.TheVariants.{Compare, ToString, Format}
use Rattle.wap_libs.specs.Arguments.{on, on_integer, on_text, number, from_zero}
use Rattle.wap_libs.specs.Characters.{part, squeezed, trimmed}
use Rattle.wap_libs.specs.Occurrences.{place_of, replaced}
use Rattle.wap_libs.specs.Elements.{elements, element_at, without_element}
use Rattle.wap_libs.specs.Elements.{with_element, with_element_before}
use Rattle.wap_libs.specs.Format.{formatted}
use Rattle.wap_libs.specs.Lang.{shown}
use Rattle.wap_libs.specs.Row.{Formula, of_one, of_two, of_three, of_four}

-- the String that a value becomes, where that isn't empty
abbrev pub some_text_of : Value → Option (List ℕ)
some_text_of v = option_and_then (λ s. if is_empty s then None else Some s) (text_of v)

-- the separator of elements is the first character of a String
abbrev pub separator_of : Value → Option ℕ
separator_of v = option_and_then (λ s. slice_get s 0) (text_of v)

-- the character at a place, as a text; outside there is none
abbrev pub character_at : List ℕ → ℤ → List ℕ
character_at s (pos n) = part s n 1
character_at s (negsuc n) = []

-- a place, or -1
abbrev pub place_value : Option ℕ → Value
place_value None = Int (negsuc 0)
place_value (Some k) = number k

-- an order as a number: -1 where the first text comes before the second, 0 where both are the same,
-- and else 1
abbrev pub order_value : Ordering → Value
order_value Less = Int (negsuc 0)
order_value Equal = Int (pos 0)
order_value Greater = Int (pos 1)

-- WAP-194, "length"
abbrev pub string_length : Value → Value
string_length v = on_text v (λ s. number (length s))

-- WAP-194, "isEmpty"
abbrev pub string_is_empty : Value → Value
string_is_empty v = on_text v (λ s. Boolean (is_empty s))

-- WAP-194, "charAt"
abbrev pub string_char_at : Value → Value → Value
string_char_at v i = on_text v (λ s. on_integer i (λ k. Str (character_at s k)))

-- WAP-194, "subString"
abbrev pub string_sub_string : Value → Value → Value → Value
string_sub_string v i n =
    on_text v (λ s.
    on_integer i (λ start.
    on_integer n (λ count. Str (part s (from_zero start) (from_zero count)))))

-- WAP-194, "find"
abbrev pub string_find : Value → Value → Value
string_find v w = on_text v (λ s. on (some_text_of w) (λ t. place_value (place_of t s)))

-- WAP-194, "replace"
abbrev pub string_replace : Value → Value → Value → Value
string_replace v w x =
    on_text v (λ s. on (some_text_of w) (λ old. on_text x (λ new. Str (replaced old new s))))

-- WAP-194, "elements"
abbrev pub string_elements : Value → Value → Value
string_elements v w = on_text v (λ s. on (separator_of w) (λ c. number (length (elements c s))))

-- WAP-194, "elementAt"
abbrev pub string_element_at : Value → Value → Value → Value
string_element_at v i w =
    on_text v
    (λ s. on_integer i (λ k. on (separator_of w) (λ c. Str (element_at c (from_zero k) s))))

-- WAP-194, "removeAt"
abbrev pub string_remove_at : Value → Value → Value → Value
string_remove_at v i w =
    on_text v
    (λ s. on_integer i (λ k. on (separator_of w) (λ c. Str (without_element c (from_zero k) s))))

-- WAP-194, "replaceAt"
abbrev pub string_replace_at : Value → Value → Value → Value → Value
string_replace_at v x i w =
    on_text v (λ s.
    on_text x (λ new.
    on_integer i (λ k. on (separator_of w) (λ c. Str (with_element c (from_zero k) new s)))))

-- WAP-194, "insertAt"
abbrev pub string_insert_at : Value → Value → Value → Value → Value
string_insert_at v x i w =
    on_text v (λ s.
    on_text x (λ new.
    on_integer i (λ k. on (separator_of w) (λ c. Str (with_element_before c (from_zero k) new s)))))

-- WAP-194, "squeeze"
abbrev pub string_squeeze : Value → Value
string_squeeze v = on_text v (λ s. Str (squeezed s))

-- WAP-194, "trim"
abbrev pub string_trim : Value → Value
string_trim v = on_text v (λ s. Str (trimmed s))

-- WAP-194, "compare"
abbrev pub string_compare : Value → Value → Value
string_compare v w = on_text v (λ s. on_text w (λ t. order_value (text_cmp s t)))

-- WAP-194, "toString"
abbrev pub string_to_string : Value → Value
string_to_string v = Str (shown v)

-- WAP-194, "format"
abbrev pub string_format : Value → Value → Value
string_format v w = on_text v (λ s. if is_valid w then text_value (formatted s w) else Invalid)

-- each function at its name
abbrev pub formula_of_string : StringFunction → Formula
formula_of_string Length = of_one string_length
formula_of_string IsEmpty = of_one string_is_empty
formula_of_string CharAt = of_two string_char_at
formula_of_string SubString = of_three string_sub_string
formula_of_string Find = of_two string_find
formula_of_string Replace = of_three string_replace
formula_of_string Elements = of_two string_elements
formula_of_string ElementAt = of_three string_element_at
formula_of_string RemoveAt = of_three string_remove_at
formula_of_string ReplaceAt = of_four string_replace_at
formula_of_string InsertAt = of_four string_insert_at
formula_of_string Squeeze = of_one string_squeeze
formula_of_string Trim = of_one string_trim
formula_of_string Compare = of_two string_compare
formula_of_string ToString = of_one string_to_string
formula_of_string Format = of_two string_format
