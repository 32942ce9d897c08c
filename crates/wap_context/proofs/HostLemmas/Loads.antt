-- loadString by the URL that it asks for.
use Rattle.std.proofs.Common.{◌≡◌, ◌∙◌, ℕ, Bool, true, false, List, Option, Some, None, Ok, Err}
use Rattle.std.proofs.Common.{refl, sym, ap}
use Rattle.std.specs.Prelude.{if◌then◌else◌, Result, nat_eq, codes, option_and_then}
use Rattle.std.specs.Option.{option_map_or}
use Rattle.std.specs.List.{starts_with}
use Rattle.wap_url.specs.declared.url.Url.{Url}
use Rattle.wap_url.specs.declared.fault.UrlFault.{UrlFault}
use Rattle.wap_url.specs.Calculation.{url_at}
use Rattle.wap_value.specs.declared.value.Value.{Value}
use Rattle.wap_value.specs.declared.value.Value.TheVariants.{Invalid}
use Rattle.wap_value.specs.Conversion.{text_of}
use Rattle.wap_libs.specs.Row.{argument}
use Rattle.wap_execution.specs.declared.library.HostOut.{HostOut}
use Rattle.wap_world.specs.declared.refusal.Refusal.{Refusal}
use Rattle.wap_world.specs.Shelves.{Shelf}
use Rattle.wap_world.specs.Urls.{page_url}
use Rattle.wap_world.specs.Steps.{Step}
use Rattle.wap_world.specs.scripting.Browsing.{gives}
use Rattle.wap_world.specs.scripting.Loading.{loaded, load_at, load_from, load_string}
use Rattle.wap_world.specs.scripting.Hosting.{load_call}
use Rattle.wap_context.specs.host.inside.Loading.{page_in, page_read, page_typed, loadable}

module _ (shelf : Shelf) (step : Step) where
  -- the page is asked for, where there is a URL
  abbrev pub after_url : Option Url → HostOut × Step
  after_url found = option_map_or (λ url. loaded shelf url step) found (gives Invalid step)

  at_is : (r : Result Url Refusal) → load_at shelf r step ≡ after_url (page_in r)
  at_is (Ok url) = refl
  at_is (Err why) = refl

  from_is : (r : Result Url UrlFault) → load_from shelf r step ≡ after_url (page_read r)
  from_is (Ok url) = at_is (page_url url)
  from_is (Err fault) = refl

  typed_is : (is_typed : Bool) (url : List ℕ)
      → (if is_typed then load_from shelf (url_at url) step else gives Invalid step)
      ≡ after_url (if is_typed then page_read (url_at url) else None)
  typed_is true url = from_is (url_at url)
  typed_is false url = refl

  kinds_are : (url : List ℕ) (kind : Option (List ℕ))
      → option_map_or (λ type. load_string shelf url type step) kind (gives Invalid step)
      ≡ after_url (option_and_then (page_typed url) kind)
  kinds_are url None = refl
  kinds_are url (Some kind) = typed_is (starts_with nat_eq kind (codes "text/")) url

  texts_are : (url kind : Option (List ℕ))
      → option_map_or (λ one. option_map_or (λ type. load_string shelf one type step) kind
      (gives Invalid step)) url (gives Invalid step)
      ≡ after_url (option_and_then (λ one. option_and_then (page_typed one) kind) url)
  texts_are None kind = refl
  texts_are (Some url) kind = kinds_are url kind

  pub load_is : (arguments : List Value) (found : Option Url)
      → found ≡ loadable (argument arguments 0) (argument arguments 1)
      → load_call shelf arguments step ≡ after_url found
  load_is arguments found is =
      texts_are (text_of (argument arguments 0)) (text_of (argument arguments 1))
      ∙ ap after_url (sym is)
