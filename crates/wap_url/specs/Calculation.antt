-- What a text is read as: the split of RFC 2396, appendix B, or the first fault.
use Rattle.std.specs.Prelude.{ℕ, Bool, true, false, ◌&&◌, not, if◌then◌else◌, List, [], ◌∷◌}
use Rattle.std.specs.Prelude.{length, drop, Option, Some, None, Result, Ok, Err}
use Rattle.std.specs.Option.{option_map, option_and_then, option_map_or}
use Rattle.wap_url.specs.declared.url.Url.{Url}
use Rattle.wap_url.specs.declared.fault.UrlFault.{UrlFault}
use Rattle.wap_url.specs.declared.fault.UrlFault.TheVariants.{BadChar, BadScheme, BadHost, BadPort}
use Rattle.wap_url.specs.Characters.{is_hash, is_slash, is_colon, is_question, is_allowed}
use Rattle.wap_url.specs.Characters.{ends_scheme, ends_authority, is_scheme, is_host}
use Rattle.wap_base.specs.Cuts.{until, onward, after_one, begins_with}
use Rattle.wap_url.specs.UrlParts.{Parts, url_of, is_port}

-- ends what stands before the fragment: the `#`, or a character that may not stand there
abbrev pub is_stop : ℕ → Bool
is_stop c = not (is_allowed c)

-- what stands before the fragment
abbrev pub front : List ℕ → List ℕ
front text = until is_stop text

-- what follows the `#`, if there is one
abbrev pub fragment_of : List ℕ → Option (List ℕ)
fragment_of text = after_one (onward is_stop text)

-- a `:` stands before any `/` or `?`
abbrev pub has_scheme : List ℕ → Bool
has_scheme front = begins_with is_colon (onward ends_scheme front)

-- the scheme, without its `:`
abbrev pub scheme_of : List ℕ → Option (List ℕ)
scheme_of front = if has_scheme front then Some (until ends_scheme front) else None

-- what follows the scheme and its `:`, or all
abbrev pub after_scheme : List ℕ → List ℕ
after_scheme front = if has_scheme front then drop 1 (onward ends_scheme front) else front

-- the rest begins with `//`
abbrev pub begins_with_slashes : List ℕ → Bool
begins_with_slashes [] = false
begins_with_slashes (c ∷ []) = false
begins_with_slashes (c ∷ d ∷ rest) = is_slash c && is_slash d

-- the authority, without its `//`
abbrev pub authority_of : List ℕ → Option (List ℕ)
authority_of rest =
    if begins_with_slashes rest then Some (until ends_authority (drop 2 rest)) else None

-- what follows the authority, or all
abbrev pub after_authority : List ℕ → List ℕ
after_authority rest =
    if begins_with_slashes rest then onward ends_authority (drop 2 rest) else rest

-- the host of an authority, which ends at its first `:`
abbrev pub host_in : List ℕ → List ℕ
host_in authority = until is_colon authority

-- the port of an authority: what follows its first `:`
abbrev pub port_in : List ℕ → Option (List ℕ)
port_in authority = after_one (onward is_colon authority)

-- the host of a text without its fragment
abbrev pub host_of : List ℕ → Option (List ℕ)
host_of front = option_map host_in (authority_of (after_scheme front))

-- its port
abbrev pub port_of : List ℕ → Option (List ℕ)
port_of front = option_and_then port_in (authority_of (after_scheme front))

-- its path and query
abbrev pub tail_of : List ℕ → List ℕ
tail_of front = after_authority (after_scheme front)

-- its path, which ends at the first `?`
abbrev pub path_part : List ℕ → List ℕ
path_part front = until is_question (tail_of front)

-- its query: what follows that `?`
abbrev pub query_part : List ℕ → Option (List ℕ)
query_part front = after_one (onward is_question (tail_of front))

-- the parts of what stands before the fragment, beside a fragment
abbrev pub parts_with : List ℕ → Option (List ℕ) → Parts
parts_with front fragment = record {
  scheme = scheme_of front;
  host = host_of front;
  port = port_of front;
  path = path_part front;
  query = query_part front;
  fragment = fragment;
}

-- the parts of a text
abbrev pub parts_of : List ℕ → Parts
parts_of text = parts_with (front text) (fragment_of text)

-- a character stands before the fragment that may not
abbrev pub has_bad_char : List ℕ → Bool
has_bad_char text = begins_with (λ c. not (is_hash c)) (onward is_stop text)

-- what is there passes
abbrev pub passes_if_there : (List ℕ → Bool) → Option (List ℕ) → Bool
passes_if_there p part = option_map_or p part true

-- the first fault of the parts
abbrev pub fault_of : Parts → Option UrlFault
fault_of p =
    if not (passes_if_there is_scheme p.scheme) then Some BadScheme
    else if not (passes_if_there is_host p.host) then Some BadHost
    else if not (passes_if_there is_port p.port) then Some BadPort
    else None

-- the URL where there is no fault
abbrev pub unless : Option UrlFault → Url → Result Url UrlFault
unless None url = Ok url
unless (Some fault) url = Err fault

-- the URL that a text is read as, or its first fault
abbrev pub url_at : List ℕ → Result Url UrlFault
url_at text =
    if has_bad_char text then Err (BadChar (length (front text)))
    else unless (fault_of (parts_of text)) (url_of (parts_of text))
