-- Who may enter a deck (WAP-191, section 11.3.1), or call a script (WAP-193, section 6.7).
use Rattle.std.specs.Prelude.{ℕ, Bool, true, false, ◌&&◌, if◌then◌else◌, map}
use Rattle.std.specs.Prelude.{unwrap_or, List, [], ◌∷◌, Option, Some, None}
use Rattle.std.specs.Option.{option_map, option_map_or, option_and_then}
use Rattle.wap_world.specs.Shelves.{Entrance}
use Rattle.std.specs.List.{starts_with, ends_with}
use Rattle.std.specs.Char.{to_ascii_lowercase}
use Rattle.wap_base.specs.Texts.{is_same_text}
use Rattle.wap_base.specs.Cuts.{begins_with}
use Rattle.wap_base.specs.Ascii.{slash}
use Rattle.wap_url.specs.declared.url.Url.{Url}
use Rattle.wap_url.specs.declared.access.Access.{Access}
use Rattle.wap_url.specs.Characters.{is_slash}
use Rattle.wap_url.specs.Segments.{segments, labels}
use Rattle.wap_url.specs.Access.{below_root, access_segments}
use Rattle.wap_url.specs.Joining.{joined}
use Rattle.wap_tokens.specs.declared.markup.deck.Deck.{Deck}
use Rattle.wap_tokens.specs.declared.markup.deck.Node.{Node}
use Rattle.wap_tokens.specs.declared.markup.name.Tag.TheVariants as tags
use Rattle.wap_tokens.specs.declared.markup.name.AttrName.{AttrName}
use Rattle.wap_tokens.specs.declared.markup.name.AttrName.TheVariants as attrs
use Rattle.wap_tokens.specs.markup.Trees.{first_with}
use Rattle.wap_cardrules.specs.Values.{value_if}

-- ---- the test, by calculation

-- the labels of the domain, in lower case, are the last ones of the host's; a URL without a host is
-- not allowed
abbrev pub allows_host : Access → Url → Bool
allows_host access caller =
    let domain = labels (map to_ascii_lowercase access.domain) in
    option_map_or (λ host. ends_with is_same_text (labels host) domain) caller.host false

-- the segments of the access path are the first ones of the URL's path
abbrev pub allows_path : Access → Url → Bool
allows_path access caller =
    starts_with is_same_text (segments (below_root caller.path)) (access_segments access.path)

-- the host ends in the labels of the domain, and the path begins with the segments of the access
-- path
abbrev pub allows : Access → Url → Bool
allows access caller = allows_host access caller && allows_path access caller

-- ---- the element

-- who may enter must not depend on variables, so a reference adds nothing
abbrev pub access_text : AttrName → Node → Option (List ℕ)
access_text name node = value_if [] name node

-- a reference that has a path alone
abbrev pub path_reference : List ℕ → Url
path_reference path = record {
  scheme = None;
  host = None;
  port = None;
  path = path;
  query = None;
  fragment = None;
}

-- a path that doesn't begin at the root is joined to the page's
abbrev pub rooted_path : Url → List ℕ → List ℕ
rooted_path page path =
    if begins_with is_slash path then path else (joined page (path_reference path)).path

-- the domain is that of the page where there is none, and the path the root
abbrev pub access_in : Url → Entrance → Access
access_in page entrance = record {
  domain = unwrap_or entrance.domain (unwrap_or page.host []);
  path = rooted_path page (unwrap_or entrance.path (slash ∷ []));
}

-- the first access element of the first head
abbrev pub access_of : Deck → Option Node
access_of deck =
    option_and_then (λ head. first_with tags.Access head.kids) (first_with tags.Head deck.root.kids)

-- who may enter a deck; without an access element anybody may
abbrev pub entrance_of : Deck → Option Entrance
entrance_of deck = option_map (λ node. record {
  domain = access_text attrs.Domain node;
  path = access_text attrs.Path node;
}) (access_of deck)

-- without an entrance anybody may enter, and a user who opens a URL always may
abbrev pub may_enter : Url → Option Entrance → Option Url → Bool
may_enter page entrance None = true
may_enter page entrance (Some caller) =
    option_map_or (λ one. allows (access_in page one) caller) entrance true
