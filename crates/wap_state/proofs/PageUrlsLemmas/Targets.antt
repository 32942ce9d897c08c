-- What a go or an open comes to from the URL of a page is the URL of a page.
use Rattle.std.proofs.Common.{◌≡◌, ℕ, Bool, true, false, not, List, refl, subst, cond}
use Rattle.std.proofs.Common.{Some, None, Option, IfSome, IsSome, Result, Ok, Err}
use Rattle.std.specs.Prelude.{is_none, ◌||◌, unwrap_or, codes}
use Rattle.std.specs.Option.{option_map_or}
use Rattle.wap_base.specs.Texts.{is_same_text}
use Rattle.wap_base.proofs.Choices.{ok_same}
use Rattle.wap_url.specs.declared.url.Url.{Url}
use Rattle.wap_url.specs.declared.fault.UrlFault.{UrlFault}
use Rattle.wap_url.specs.Printing.{IsNormal, printed}
use Rattle.wap_url.specs.Calculation.{url_at}
use Rattle.wap_url.specs.Joining.{joined}
use Rattle.wap_url.proofs.AgainLaws.{url_again}
use Rattle.wap_url.proofs.NormalLaws.{normal_again}
use Rattle.wap_url.proofs.ReadLaws.{ok_clauses}
use Rattle.wap_cardrules.specs.declared.task.Go.{Go}
use Rattle.wap_world.specs.declared.refusal.Refusal.{Refusal}
use Rattle.wap_world.specs.declared.refusal.Refusal.TheVariants as refusals
use Rattle.wap_world.specs.Urls.{page_url, joined_to, target_of}
use Rattle.wap_world.specs.Requests.{request_of, url_with}
use Rattle.wap_state.specs.page_urls.PageUrls.{is_http, IsPageUrl}
use Rattle.wap_state.proofs.PageUrlsLemmas.Joining.{joined_page, joined_alone}
use Rattle.wap_state.proofs.PageUrlsLemmas.Queries.{page_with}

-- what passes as the URL of a page, by its scheme and host
record Passes (url found : Url) (scheme other : Option (List ℕ)) : Type 0 where
  same : url ≡ found
  http : option_map_or (λ one. is_same_text one (codes "http")) scheme false ≡ true
  host : IsSome other

abbrev checked : Option (List ℕ) → Option (List ℕ) → Url → Result Url Refusal
checked scheme host url =
    cond (option_map_or (λ one. not (is_same_text one (codes "http"))) scheme false)
    (Err refusals.Scheme)
    (cond (is_none scheme || is_none host) (Err refusals.Url) (Ok url))

by_test : (url found : Url) (scheme : List ℕ) (host : Option (List ℕ)) (test : Bool)
    → is_same_text scheme (codes "http") ≡ test
    → ◌≡◌ {A = Result Url Refusal} (cond (not test) (Err refusals.Scheme)
    (cond (is_none host) (Err refusals.Url) (Ok url))) (Ok found)
    → Passes url found (Some scheme) host
by_test url found scheme host false test is = absurd (cc is)
by_test url found scheme None true test is = absurd (cc is)
by_test url found scheme (Some host) true test is =
    record { same = ok_same url found is; http = test; host = refl }

passes : (url found : Url) (scheme host : Option (List ℕ)) → checked scheme host url ≡ Ok found
    → Passes url found scheme host
passes url found None host is = absurd (cc is)
passes url found (Some scheme) host is =
    by_test url found scheme host (is_same_text scheme (codes "http")) refl is

found_page : (url found : Url) → page_url url ≡ Ok found
    → (is_http url ≡ true → IsSome url.host → IsPageUrl url) → IsPageUrl found
found_page url found is page =
    let it = passes url found url.scheme url.host is in
    subst IsPageUrl it.same (page it.http it.host)

from_read : (base : Option Url) (reference url : Url) → IfSome base IsPageUrl → IsNormal reference
    → page_url (joined (unwrap_or base reference) reference) ≡ Ok url → IsPageUrl url
from_read None reference url page normal is =
    found_page (joined reference reference) url is (joined_alone reference normal)
from_read (Some base) reference url page normal is =
    found_page (joined base reference) url is (joined_page base reference page normal)

by_reading : (base : Option Url) (href : List ℕ) (url : Url) (read : Result Url UrlFault)
    → url_at href ≡ read → IfSome base IsPageUrl → joined_to base read ≡ Ok url → IsPageUrl url
by_reading base href url (Err fault) read page is = absurd (cc is)
by_reading base href url (Ok reference) read page is =
    from_read base reference url page (ok_clauses href reference read).normal is

pub target_page : (base : Option Url) (href : List ℕ) (url : Url) → IfSome base IsPageUrl
    → target_of base href ≡ Ok url → IsPageUrl url
target_page base href url page is = by_reading base href url (url_at href) refl page is

-- what a go asks for from there is asked of a page
pub request_page : (base : Option Url) (go : Go) (url : Url) → IsPageUrl url
    → IsPageUrl (request_of base go url).url
request_page base go url page = by_post go.post where
  by_post : (post : Bool) → IsPageUrl (cond post url (url_with url go.posts))
  by_post true = page
  by_post false = page_with url go.posts page

-- the text of such a URL is read as this URL again
pub page_read : (url : Url) → IsPageUrl url → url_at (printed url) ≡ Ok url
page_read url page = url_again (printed url) url (normal_again url page.normal)
