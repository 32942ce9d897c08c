-- The functions by their numbers (WAP-194, "Library Summary"). The libraries that need no browser
-- are Lang, Float, String and URL.
use Rattle.std.specs.Prelude.{◌≡◌, ℕ, List, [], ◌∷◌, map, Option, Some}
use Rattle.std.specs.Prelude.{slice_get, option_map, option_and_then}
use Rattle.std.specs.Option.{option_flatten, option_map_or}
use Rattle.wap_value.specs.declared.value.Value.TheVariants.{Invalid}
use Rattle.wap_libs.specs.declared.function.TheConstants.{LANG, FLOAT, STRING, URL}
use Rattle.wap_libs.specs.declared.function.Function.{Function}
use Rattle.wap_libs.specs.declared.function.Function.TheVariants.{Lang, Float, String, Url}
use Rattle.wap_libs.specs.Row.{Row, gives, of_none, arguments}
use Rattle.wap_libs.specs.Lang.{row_of_lang}
use Rattle.wap_libs.specs.Float.{formula_of_float}
use Rattle.wap_libs.specs.String.{formula_of_string}
use Rattle.wap_libs.specs.Url.{formula_of_url}

-- the functions of each library
abbrev pub libraries : List (List (Option Function))
libraries =
    map (λ f. Some (Lang f)) LANG
    ∷ map (λ f. Some (Float f)) FLOAT
    ∷ map (λ f. Some (String f)) STRING
    ∷ map (option_map Url) URL
    ∷ []

-- the function of a library's number and its own; `None` where it asks the browser, or there is
-- none
abbrev pub function_at : ℕ → ℕ → Option Function
function_at library number =
    option_flatten
    (option_and_then (λ functions. slice_get functions number) (slice_get libraries library))

-- the row of a function, from the table of its library
abbrev pub row_of : Function → Row
row_of (Lang f) = row_of_lang f
row_of (Float f) = gives (formula_of_float f)
row_of (String f) = gives (formula_of_string f)
row_of (Url f) = gives (formula_of_url f)

-- the library has the function, which takes so many arguments and doesn't ask the browser
abbrev pub IsPure : ℕ → ℕ → ℕ → Type 0
IsPure library number count =
    option_map (λ f. arguments (row_of f)) (function_at library number) ≡ Some count

-- the row of these numbers; no call asks for one that isn't there
abbrev pub row_at : ℕ → ℕ → Row
row_at library number = option_map_or row_of (function_at library number) (gives (of_none Invalid))
