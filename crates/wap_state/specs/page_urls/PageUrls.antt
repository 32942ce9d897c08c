-- URLs of pages (WAP-191, section 9.5.1): of http, with a host, and as they are read from text.
use Rattle.std.specs.Prelude.{◌≡◌, Bool, true, false, None, IsSome, codes}
use Rattle.std.specs.Option.{option_map_or}
use Rattle.wap_base.specs.Texts.{is_same_text}
use Rattle.wap_url.specs.declared.url.Url.{Url}
use Rattle.wap_url.specs.Printing.{IsNormal}
use Rattle.wap_world.specs.declared.history.Entry.{Entry}

-- the scheme of the web
abbrev pub is_http : Url → Bool
is_http url = option_map_or (λ scheme. is_same_text scheme (codes "http")) url.scheme false

-- http and a host, and its text is read as this URL again
pub record IsPageUrl (url : Url) : Type 0 where
  pub normal : IsNormal url
  pub http : is_http url ≡ true
  pub host : IsSome url.host

-- a card by the URL of its page, without a fragment
pub record IsPageEntry (entry : Entry) : Type 0 where
  pub page : IsPageUrl entry.url
  pub whole : entry.url.fragment ≡ None
