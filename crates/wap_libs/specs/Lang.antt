-- The library Lang (WAP-194, "Lang").
use Rattle.std.specs.Prelude.{ℕ, ◌+◌, ◌%◌, Bool, false, ◌||◌, ◌==◌, is_some}
use Rattle.std.specs.Prelude.{if◌then◌else◌, List, [], ◌∷◌, ℤ, pos, negsuc}
use Rattle.std.specs.Prelude.{unsigned_abs, Option, Some, None, unwrap_or, codes}
use Rattle.std.specs.Int.{int_min, int_max}
use Rattle.std.specs.Char.{is_ascii_digit}
use Rattle.std.specs.List.{take_while}
use Rattle.wap_base.specs.Ascii.{plus_sign, hyphen}
use Rattle.wap_value.specs.declared.value.Value.{Value}
use Rattle.wap_value.specs.declared.value.Value.TheVariants.{Int, Bool as Boolean, Str, Invalid}
use Rattle.wap_value.specs.Numeral.{integer_of_text}
use Rattle.wap_value.specs.Conversion.{integer_of, text_of, integer_value}
use Rattle.wap_libs.specs.declared.outcome.LibOut.{LibOut}
use Rattle.wap_libs.specs.declared.outcome.LibOut.TheVariants.{Exit as Exits, Abort as Aborts}
use Rattle.wap_libs.specs.declared.function.LangFunction.{LangFunction}
use Rattle.wap_libs.specs.declared.function.LangFunction.TheVariants.{Abs, Min, Max, ParseInt}
use Rattle.wap_libs.specs.declared.function.LangFunction.TheVariants.{ParseFloat, IsInt, IsFloat}
use Rattle.wap_libs.specs.declared.function.LangFunction.TheVariants.{MaxInt, MinInt, Float, Exit}
use Rattle.wap_libs.specs.declared.function.LangFunction.TheVariants.{Abort, Random, Seed}
use Rattle.wap_libs.specs.declared.function.LangFunction.TheVariants.{CharacterSet}
use Rattle.wap_libs.specs.Arguments.{on_integer, on_text, number}
use Rattle.wap_libs.specs.Characters.{behind_blanks}
use Rattle.wap_libs.specs.Generator.{Generator, started_from, next_word, after_word}
use Rattle.wap_libs.specs.Row.{Row, gives, ends, draws, of_none, of_one, of_two}

-- `+` or `-`
abbrev pub is_sign : ℕ → Bool
is_sign c = c == plus_sign || c == hyphen

-- the sign, if there is one, and the longest run of digits after it
abbrev pub numeral : List ℕ → List ℕ
numeral [] = []
numeral (c ∷ s) =
    if is_sign c then c ∷ take_while is_ascii_digit s else take_while is_ascii_digit (c ∷ s)

-- the Integer that a text begins with, after white space; what follows it doesn't matter
abbrev pub leading_integer : List ℕ → Option ℤ
leading_integer s = integer_of_text (numeral (behind_blanks s))

-- the next word modulo i + 1; an Integer below 0 draws none
abbrev pub random_up_to : Option ℤ → Generator → Value × Generator
random_up_to None g = (Invalid, g)
random_up_to (Some (negsuc n)) g = (Invalid, g)
random_up_to (Some (pos n)) g = (Int (pos (next_word g % (n + 1))), after_word g)

-- the generator begins anew, from the Integer or, where that is below 0, from the session's seed
abbrev pub restarted : Option ℤ → Generator → Value × Generator
restarted None g = (Invalid, g)
restarted (Some (negsuc n)) g = (Str [], started_from g.seed g.seed)
restarted (Some (pos n)) g = (Str [], started_from g.seed n)

-- a value as a String, `invalid` for invalid
abbrev pub shown : Value → List ℕ
shown v = unwrap_or (text_of v) (codes "invalid")

-- WAP-194, "abs"
abbrev pub lang_abs : Value → Value
lang_abs v = on_integer v (λ i. number (unsigned_abs i))

-- WAP-194, "min"
abbrev pub lang_min : Value → Value → Value
lang_min v w = on_integer v (λ i. on_integer w (λ j. Int (int_min i j)))

-- WAP-194, "max"
abbrev pub lang_max : Value → Value → Value
lang_max v w = on_integer v (λ i. on_integer w (λ j. Int (int_max i j)))

-- WAP-194, "parseInt"
abbrev pub lang_parse_int : Value → Value
lang_parse_int v = on_text v (λ s. integer_value (leading_integer s))

-- WAP-194, "parseFloat"; there are no Floats
abbrev pub lang_parse_float : Value → Value
lang_parse_float v = Invalid

-- WAP-194, "isInt"
abbrev pub lang_is_int : Value → Value
lang_is_int v = on_text v (λ s. Boolean (is_some (leading_integer s)))

-- WAP-194, "isFloat"
abbrev pub lang_is_float : Value → Value
lang_is_float v = Invalid

-- WAP-194, "maxInt"
abbrev pub lang_max_int : Value
lang_max_int = Int (pos 2147483647)

-- WAP-194, "minInt"
abbrev pub lang_min_int : Value
lang_min_int = Int (negsuc 2147483647)

-- WAP-194, "float"
abbrev pub lang_float : Value
lang_float = Boolean false

-- WAP-194, "exit"
abbrev pub lang_exit : Value → LibOut
lang_exit v = Exits v

-- WAP-194, "abort"
abbrev pub lang_abort : Value → LibOut
lang_abort v = Aborts (shown v)

-- WAP-194, "random"
abbrev pub lang_random : Value → Generator → Value × Generator
lang_random v g = random_up_to (integer_of v) g

-- WAP-194, "seed"
abbrev pub lang_seed : Value → Generator → Value × Generator
lang_seed v g = restarted (integer_of v) g

-- WAP-194, "characterSet": UTF-8, by its number in the list of IANA
abbrev pub lang_character_set : Value
lang_character_set = Int (pos 106)

-- each function at its name
abbrev pub row_of_lang : LangFunction → Row
row_of_lang Abs = gives (of_one lang_abs)
row_of_lang Min = gives (of_two lang_min)
row_of_lang Max = gives (of_two lang_max)
row_of_lang ParseInt = gives (of_one lang_parse_int)
row_of_lang ParseFloat = gives (of_one lang_parse_float)
row_of_lang IsInt = gives (of_one lang_is_int)
row_of_lang IsFloat = gives (of_one lang_is_float)
row_of_lang MaxInt = gives (of_none lang_max_int)
row_of_lang MinInt = gives (of_none lang_min_int)
row_of_lang Float = gives (of_none lang_float)
row_of_lang Exit = ends lang_exit
row_of_lang Abort = ends lang_abort
row_of_lang Random = draws lang_random
row_of_lang Seed = draws lang_seed
row_of_lang CharacterSet = gives (of_none lang_character_set)
