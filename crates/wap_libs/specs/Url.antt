-- The library URL (WAP-194, "URL"), but for what asks the browser.
use Rattle.std.specs.Prelude.{◌-◌, length, slice_index_or, slice_set, ℕ, Bool, ◌&&◌}
use Rattle.std.specs.Prelude.{is_ok, is_some, if◌then◌else◌, List, [], Option, Some, None}
use Rattle.std.specs.Prelude.{unwrap_or, option_map, option_and_then, chars}
use Rattle.std.specs.Fmt.{decimal}
use Rattle.std.specs.Result.{result_ok}
use Rattle.std.specs.Str.{is_utf8}
use Rattle.wap_base.specs.Ascii.{slash, semicolon}
use Rattle.wap_url.specs.declared.url.Url.{Url as UrlParts}
use Rattle.wap_url.specs.Calculation.{url_at}
use Rattle.wap_url.specs.Printing.{printed}
use Rattle.wap_url.specs.Joining.{joined}
use Rattle.wap_url.specs.Escapes.{escaped, unescaped}
use Rattle.wap_value.specs.declared.value.Value.{Value}
use Rattle.wap_value.specs.declared.value.Value.TheVariants.{Bool as Boolean, Str, Invalid}
use Rattle.wap_value.specs.Conversion.{text_of, text_value}
use Rattle.wap_libs.specs.declared.function.UrlFunction.{UrlFunction}
use Rattle.wap_libs.specs.declared.function.UrlFunction.TheVariants.{IsValid, GetScheme, GetHost}
use Rattle.wap_libs.specs.declared.function.UrlFunction.TheVariants.{GetPort, GetPath}
use Rattle.wap_libs.specs.declared.function.UrlFunction.TheVariants.{GetParameters, GetQuery}
use Rattle.wap_libs.specs.declared.function.UrlFunction.TheVariants.{GetFragment, Resolve}
use Rattle.wap_libs.specs.declared.function.UrlFunction.TheVariants.{EscapeString, UnescapeString}
use Rattle.wap_libs.specs.Arguments.{on, on_text}
use Rattle.wap_libs.specs.Elements.{elements, joined as with_separators}
use Rattle.wap_libs.specs.Elements.{element_at, without_element}
use Rattle.wap_libs.specs.Row.{Formula, of_one, of_two}

-- the URL that a value spells
abbrev pub url_of : Value → Option UrlParts
url_of v = option_and_then (λ s. result_ok (url_at s)) (text_of v)

-- what f makes of an argument as a URL
abbrev pub on_url : Value → (UrlParts → Value) → Value
on_url v f = on (url_of v) f

-- a part of a URL; one that is absent is the empty String
abbrev pub part_value : Option (List ℕ) → Value
part_value part = Str (unwrap_or part [])

-- what follows the path's last slash
abbrev pub last_segment : List ℕ → List ℕ
last_segment path =
    let segments = elements slash path in
    slice_index_or segments (length segments - 1) []

-- the parameters: what follows the first `;` of that segment
abbrev pub parameters : List ℕ → List ℕ
parameters path = without_element semicolon 0 (last_segment path)

-- the path without them
abbrev pub without_parameters : List ℕ → List ℕ
without_parameters path =
    let segments = elements slash path in
    with_separators slash
    (slice_set segments (length segments - 1) (element_at semicolon 0 (last_segment path)))

-- a base has a scheme and a host
abbrev pub is_base : UrlParts → Bool
is_base u = is_some u.scheme && is_some u.host

-- A reference joined to a base. That an absolute one changes too, by its dot segments and the case
-- of its scheme and host, is this project's own; the standard gives it back as it is.
abbrev pub resolved : UrlParts → UrlParts → Value
resolved base reference = if is_base base then Str (printed (joined base reference)) else Invalid

-- the characters of bytes, where they are UTF-8
abbrev pub text_of_bytes : List ℕ → Option (List ℕ)
text_of_bytes bytes = if is_utf8 bytes then Some (chars bytes) else None

-- WAP-194, "isValid"
abbrev pub url_is_valid : Value → Value
url_is_valid v = on_text v (λ s. Boolean (is_ok (url_at s)))

-- WAP-194, "getScheme"
abbrev pub url_get_scheme : Value → Value
url_get_scheme v = on_url v (λ u. part_value u.scheme)

-- WAP-194, "getHost"
abbrev pub url_get_host : Value → Value
url_get_host v = on_url v (λ u. part_value u.host)

-- WAP-194, "getPort"
abbrev pub url_get_port : Value → Value
url_get_port v = on_url v (λ u. part_value (option_map decimal u.port))

-- WAP-194, "getPath"
abbrev pub url_get_path : Value → Value
url_get_path v = on_url v (λ u. Str (without_parameters u.path))

-- WAP-194, "getParameters"
abbrev pub url_get_parameters : Value → Value
url_get_parameters v = on_url v (λ u. Str (parameters u.path))

-- WAP-194, "getQuery"
abbrev pub url_get_query : Value → Value
url_get_query v = on_url v (λ u. part_value u.query)

-- WAP-194, "getFragment"
abbrev pub url_get_fragment : Value → Value
url_get_fragment v = on_url v (λ u. part_value u.fragment)

-- WAP-194, "resolve"
abbrev pub url_resolve : Value → Value → Value
url_resolve v w =
    on_url v (λ base. on_url w (λ u. resolved base u))

-- WAP-194, "escapeString"; by bytes of UTF-8, where the standard refuses characters past U+00FF,
-- which is this project's own
abbrev pub url_escape_string : Value → Value
url_escape_string v = on_text v (λ s. Str (escaped s))

-- WAP-194, "unescapeString"; by bytes of UTF-8 too, and invalid where those given are none
abbrev pub url_unescape_string : Value → Value
url_unescape_string v = on_text v (λ s. text_value (text_of_bytes (unescaped s)))

-- each function at its name
abbrev pub formula_of_url : UrlFunction → Formula
formula_of_url IsValid = of_one url_is_valid
formula_of_url GetScheme = of_one url_get_scheme
formula_of_url GetHost = of_one url_get_host
formula_of_url GetPort = of_one url_get_port
formula_of_url GetPath = of_one url_get_path
formula_of_url GetParameters = of_one url_get_parameters
formula_of_url GetQuery = of_one url_get_query
formula_of_url GetFragment = of_one url_get_fragment
formula_of_url Resolve = of_two url_resolve
formula_of_url EscapeString = of_one url_escape_string
formula_of_url UnescapeString = of_one url_unescape_string
