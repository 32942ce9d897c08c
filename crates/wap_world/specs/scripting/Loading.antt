-- What the library URL asks a browser (WAP-194, "URL Library"). The numbers that loadString gives
-- are those of HTTP (RFC 2616, sections 10.4.5 and 10.4.7); when they come is this project's own.
use Rattle.std.specs.Prelude.{ℕ, nat_eq, if◌then◌else◌, List, [], pos}
use Rattle.std.specs.Prelude.{Option, Result, Ok, Err, codes}
use Rattle.std.specs.Option.{option_map_or}
use Rattle.std.specs.List.{starts_with, ends_with}
use Rattle.wap_url.specs.declared.url.Url.{Url}
use Rattle.wap_url.specs.declared.fault.UrlFault.{UrlFault}
use Rattle.wap_url.specs.Calculation.{url_at}
use Rattle.wap_url.specs.Printing.{name_for, text_without_fragment}
use Rattle.wap_url.specs.Relative.{relative_form}
use Rattle.wap_value.specs.declared.value.Value.{Value}
use Rattle.wap_value.specs.declared.value.Value.TheVariants.{Int, Str, Invalid}
use Rattle.wap_execution.specs.declared.library.HostOut.{HostOut}
use Rattle.wap_world.specs.declared.refusal.Refusal.{Refusal}
use Rattle.wap_world.specs.Shelves.{Shelf, Shelved, text_page, no_page}
use Rattle.wap_world.specs.Steps.{Step}
use Rattle.wap_world.specs.Urls.{page_url}
use Rattle.wap_world.specs.Requests.{plain_get}
use Rattle.wap_world.specs.scripting.Additions.{with_request}
use Rattle.wap_world.specs.scripting.Browsing.{gives}

-- the page is no text
abbrev pub not_acceptable : Value
not_acceptable = Int (pos 406)

-- there is no page
abbrev pub not_found : Value
not_found = Int (pos 404)

-- what a page of a text's name gives
abbrev pub text_in : Shelved → Value
text_in (text_page text) = Str text
text_in no_page = not_found
text_in other = not_acceptable

-- the page is asked for whatever its name, and a text has a name that ends in `.txt`
abbrev pub loaded : Shelf → Url → Step → HostOut × Step
loaded shelf url step =
    let name = name_for url in
    gives (if ends_with nat_eq name (codes ".txt") then text_in (shelf name) else not_acceptable)
    (with_request (plain_get url) step)

-- the URL is one of a page, or there is no value
abbrev pub load_at : Shelf → Result Url Refusal → Step → HostOut × Step
load_at shelf (Ok url) step = loaded shelf url step
load_at shelf (Err why) step = gives Invalid step

-- the URL can be read; it is joined to none
abbrev pub load_from : Shelf → Result Url UrlFault → Step → HostOut × Step
load_from shelf (Ok url) step = load_at shelf (page_url url) step
load_from shelf (Err fault) step = gives Invalid step

-- the type is one of texts
abbrev pub load_string : Shelf → List ℕ → List ℕ → Step → HostOut × Step
load_string shelf url type step =
    if starts_with nat_eq type (codes "text/") then load_from shelf (url_at url) step
    else gives Invalid step

-- the script's own URL, without a fragment
abbrev pub get_base : Url → Step → HostOut × Step
get_base base step = gives (Str (text_without_fragment base)) step

-- a reference from the script to whoever called it, and "" where that was a user
abbrev pub get_referer : Url → Option Url → Step → HostOut × Step
get_referer base referer step =
    gives (Str (option_map_or (relative_form base) referer [])) step
