-- The URL that loadString asks for, by its arguments. It only carries proofs.
use Rattle.std.specs.Prelude.{ℕ, List, Option, Some, None, Result, Ok, Err}
use Rattle.std.specs.Prelude.{nat_eq, codes, option_and_then, if◌then◌else◌}
use Rattle.std.specs.List.{starts_with}
use Rattle.wap_url.specs.declared.url.Url.{Url}
use Rattle.wap_url.specs.declared.fault.UrlFault.{UrlFault}
use Rattle.wap_url.specs.Calculation.{url_at}
use Rattle.wap_value.specs.declared.value.Value.{Value}
use Rattle.wap_value.specs.Conversion.{text_of}
use Rattle.wap_world.specs.declared.refusal.Refusal.{Refusal}
use Rattle.wap_world.specs.Urls.{page_url}

abbrev pub page_in : Result Url Refusal → Option Url
page_in (Ok url) = Some url
page_in (Err why) = None

abbrev pub page_read : Result Url UrlFault → Option Url
page_read (Ok url) = page_in (page_url url)
page_read (Err fault) = None

abbrev pub page_typed : List ℕ → List ℕ → Option Url
page_typed url type =
    if starts_with nat_eq type (codes "text/") then page_read (url_at url) else None

abbrev pub loadable : Value → Value → Option Url
loadable v w =
    option_and_then (λ url. option_and_then (page_typed url) (text_of w)) (text_of v)
