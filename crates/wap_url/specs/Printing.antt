-- A URL as text (RFC 2396, section 5.2, step 7), and the name of its page.
use Rattle.std.specs.Prelude.{◌≡◌, ℕ, ◌≤◌, IfSome, ◌==◌, if◌then◌else◌, Bool, false, List}
use Rattle.std.specs.Prelude.{[], ◌∷◌, ◌++◌, map, Option, Some, None, codes}
use Rattle.std.specs.Option.{option_map, unwrap_or}
use Rattle.std.specs.Char.{to_ascii_lowercase}
use Rattle.std.specs.Fmt.{decimal}
use Rattle.wap_url.specs.declared.url.Url.{Url}
use Rattle.wap_url.specs.Characters.{is_slash}
use Rattle.wap_url.specs.UrlParts.{Parts, spelled, IsSplit, Fits}
use Rattle.wap_base.specs.Ascii.{colon}

-- the parts that spell the URL
abbrev pub parts_for : Url → Parts
parts_for u = record {
  scheme = u.scheme;
  host = u.host;
  port = option_map decimal u.port;
  path = u.path;
  query = u.query;
  fragment = u.fragment;
}

-- the URL of the page alone
abbrev pub without_fragment : Url → Url
without_fragment u = record u { fragment = None }

-- the URL as text
abbrev pub printed : Url → List ℕ
printed u = spelled (parts_for u)

-- the same without the fragment
abbrev pub text_without_fragment : Url → List ℕ
text_without_fragment u = printed (without_fragment u)

-- a URL that can be read back from its text: the text is that of its parts, which fit, with scheme
-- and host in lower case
pub record IsNormal (u : Url) : Type 0 where
  pub split : IsSplit (printed u) (parts_for u)
  pub fits : Fits (parts_for u)
  pub port : IfSome u.port (λ port. port ≤ 65535)
  pub scheme : option_map (map to_ascii_lowercase) u.scheme ≡ u.scheme
  pub host : option_map (map to_ascii_lowercase) u.host ≡ u.host

-- the port of the name: one that is not HTTP's own
abbrev pub named_port : Option ℕ → List ℕ
named_port None = []
named_port (Some port) = if port == 80 then [] else colon ∷ decimal port

-- the last character is a `/`, as in the path of a folder
abbrev pub ends_in_slash : List ℕ → Bool
ends_in_slash [] = false
ends_in_slash (c ∷ []) = is_slash c
ends_in_slash (c ∷ d ∷ cs) = ends_in_slash (d ∷ cs)

-- the page that stands for a folder
abbrev pub named_page : List ℕ → List ℕ
named_page path = if ends_in_slash path then path ++ codes "index.wmlc" else path

-- the store's name of a page (this project's own): the query is no part of it
abbrev pub name_for : Url → List ℕ
name_for u = unwrap_or u.host [] ++ (named_port u.port ++ named_page u.path)
