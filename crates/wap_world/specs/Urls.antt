-- The URL of a go or an open (WAP-191, section 9.5.1; RFC 2396): it is joined to the deck's, and
-- has to be one of a page.
use Rattle.std.specs.Prelude.{ℕ, Bool, false, is_none, ◌||◌, not, if◌then◌else◌}
use Rattle.std.specs.Prelude.{unwrap_or, List, Option, Result, Ok, Err, codes}
use Rattle.std.specs.Option.{option_map_or}
use Rattle.wap_base.specs.Texts.{is_same_text}
use Rattle.wap_url.specs.declared.url.Url.{Url}
use Rattle.wap_url.specs.declared.fault.UrlFault.{UrlFault}
use Rattle.wap_url.specs.Calculation.{url_at}
use Rattle.wap_url.specs.Joining.{joined}
use Rattle.wap_url.specs.Printing.{text_without_fragment}
use Rattle.wap_world.specs.declared.refusal.Refusal.{Refusal}
use Rattle.wap_world.specs.declared.refusal.Refusal.TheVariants as refusals

-- a scheme that is there and isn't http
abbrev pub has_other_scheme : Url → Bool
has_other_scheme url =
    option_map_or (λ scheme. not (is_same_text scheme (codes "http"))) url.scheme false

-- http, and a host
abbrev pub page_url : Url → Result Url Refusal
page_url url =
    if has_other_scheme url then Err refusals.Scheme
    else if is_none url.scheme || is_none url.host then Err refusals.Url
    else Ok url

-- without a deck a URL is joined to itself
abbrev pub joined_to : Option Url → Result Url UrlFault → Result Url Refusal
joined_to base (Err fault) = Err refusals.Url
joined_to base (Ok reference) = page_url (joined (unwrap_or base reference) reference)

-- a text is read, joined to a URL if there is one, and has to come to a page's
abbrev pub target_of : Option Url → List ℕ → Result Url Refusal
target_of base href = joined_to base (url_at href)

-- the same page, whatever the fragments
abbrev pub is_same_page : Url → Url → Bool
is_same_page a b = is_same_text (text_without_fragment a) (text_without_fragment b)
