-- The parts of a URL as they are spelled (RFC 2396, appendix B), and the URL that they stand for.
use Rattle.std.specs.Prelude.{◌≡◌, ◌≢◌, ℕ, ◌&&◌, ◌||◌, ◌⊎◌, not, nat_le, Bool, true, false, IsSome}
use Rattle.std.specs.Prelude.{IfSome, List, [], ◌∷◌, ◌++◌, map, length, Option, Some, None}
use Rattle.std.specs.Option.{option_map, option_and_then}
use Rattle.std.specs.List.{list_all}
use Rattle.std.specs.Char.{is_ascii_digit, to_ascii_lowercase}
use Rattle.std.specs.Str.Parse.{digits_value}
use Rattle.wap_url.specs.declared.url.Url.{Url}
use Rattle.wap_url.specs.Characters.{is_allowed, is_colon, is_question, is_slash}
use Rattle.wap_url.specs.Characters.{ends_scheme, ends_authority, is_scheme, is_host}
use Rattle.wap_base.specs.Cuts.{onward, begins_with}
use Rattle.wap_base.specs.Ascii.{slash, colon, question_mark, number_sign}

-- The parts. A port is the text after the host's colon, and may be empty.
pub record Parts : Type 0 where
  pub scheme : Option (List ℕ)
  pub host : Option (List ℕ)
  pub port : Option (List ℕ)
  pub path : List ℕ
  pub query : Option (List ℕ)
  pub fragment : Option (List ℕ)

-- a part with the character that ends it, where there is one
abbrev pub followed_by : ℕ → Option (List ℕ) → List ℕ
followed_by c None = []
followed_by c (Some part) = part ++ c ∷ []

-- a part after what begins it, where there is one
abbrev pub led_by : List ℕ → Option (List ℕ) → List ℕ
led_by lead None = []
led_by lead (Some part) = lead ++ part

-- `//`, the host, and the port after a `:`; without a host nothing (section 3.2)
abbrev pub authority : Option (List ℕ) → Option (List ℕ) → List ℕ
authority None port = []
authority (Some host) port = slash ∷ slash ∷ host ++ led_by (colon ∷ []) port

-- the parts in a row, as section 5.2 puts them together
abbrev pub spelled : Parts → List ℕ
spelled p =
    followed_by colon p.scheme
    ++ (authority p.host p.port
    ++ (p.path ++ (led_by (question_mark ∷ []) p.query ++ led_by (number_sign ∷ []) p.fragment)))

-- an empty port, or one to five digits up to 65535, which bounds are this project's own
abbrev pub is_port : List ℕ → Bool
is_port ds =
    list_all is_ascii_digit ds && (nat_le (length ds) 5 && nat_le (digits_value 10 ds) 65535)

-- an empty port is none
abbrev pub port_number : List ℕ → Option ℕ
port_number [] = None
port_number (d ∷ ds) = Some (digits_value 10 (d ∷ ds))

-- the URL: scheme and host in lower case
abbrev pub url_of : Parts → Url
url_of p = record {
  scheme = option_map (map to_ascii_lowercase) p.scheme;
  host = option_map (map to_ascii_lowercase) p.host;
  port = option_and_then port_number p.port;
  path = p.path;
  query = p.query;
  fragment = p.fragment;
}

-- a character of a scheme's place: none at which a later part would begin
abbrev pub may_be_scheme : ℕ → Bool
may_be_scheme c = is_allowed c && not (ends_scheme c)

-- a character of a host's place
abbrev pub may_be_host : ℕ → Bool
may_be_host c = is_allowed c && (not (ends_authority c) && not (is_colon c))

-- a character of a port's place
abbrev pub may_be_port : ℕ → Bool
may_be_port c = is_allowed c && not (ends_authority c)

-- a character of a path's place
abbrev pub may_be_path : ℕ → Bool
may_be_path c = is_allowed c && not (is_question c)

-- ends what could be a scheme at the beginning of a path
abbrev pub ends_word : ℕ → Bool
ends_word c = is_colon c || is_slash c

-- The text in its parts: in a row they are the text, and each ends where the next begins. A
-- fragment may hold any character.
pub record IsSplit (text : List ℕ) (p : Parts) : Type 0 where
  pub spells : text ≡ spelled p
  pub scheme : IfSome p.scheme (λ scheme. list_all may_be_scheme scheme ≡ true)
  pub host : IfSome p.host (λ host. list_all may_be_host host ≡ true)
  pub port : IfSome p.port (λ port. list_all may_be_port port ≡ true)
  pub port_has_host : p.host ≡ None → p.port ≡ None
  pub path : list_all may_be_path p.path ≡ true
  pub query : IfSome p.query (λ query. list_all is_allowed query ≡ true)
  -- without a scheme no colon stands in the first segment
  pub no_scheme : p.scheme ≡ None → p.host ≡ None
      → begins_with is_colon (onward ends_word p.path) ≡ false
  -- after a host the path is empty or begins with a slash, and without one it does not begin with
  -- two
  pub rooted : IsSome p.host → (p.path ≡ []) ⊎ (begins_with is_slash p.path ≡ true)
  pub no_host : p.host ≡ None → (rest : List ℕ) → p.path ≢ slash ∷ slash ∷ rest

-- scheme, host and port are what they may be
pub record Fits (p : Parts) : Type 0 where
  pub scheme : IfSome p.scheme (λ scheme. is_scheme scheme ≡ true)
  pub host : IfSome p.host (λ host. is_host host ≡ true)
  pub port : IfSome p.port (λ port. is_port port ≡ true)

-- the text is that of parts that fit and stand for the URL
abbrev pub IsUrl : List ℕ → Url → Type 0
IsUrl text url = (p : Parts) × IsSplit text p × Fits p × (url_of p ≡ url)
