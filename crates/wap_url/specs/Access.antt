-- Who may enter a page (the access element of WAP-191, section 11.3.1, and the access pragma of
-- WAP-193, section 6.7): labels of the host and segments of the path.
use Rattle.std.specs.Prelude.{ℕ, ◌==◌, if◌then◌else◌, IsSomeAnd, List, map, length, drop}
use Rattle.std.specs.Char.{to_ascii_lowercase}
use Rattle.wap_url.specs.declared.url.Url.{Url}
use Rattle.wap_url.specs.declared.access.Access.{Access}
use Rattle.wap_url.specs.Characters.{is_slash}
use Rattle.wap_base.specs.Cuts.{begins_with}
use Rattle.wap_url.specs.Segments.{segments, labels, all_but_last, last_segment, IsPrefix, IsSuffix}

-- the path without a leading slash
abbrev pub below_root : List ℕ → List ℕ
below_root path = if begins_with is_slash path then drop 1 path else path

-- the segments, an empty last one dropped
abbrev pub without_empty_last : List (List ℕ) → List (List ℕ)
without_empty_last segments =
    if length (last_segment segments) == 0 then all_but_last segments else segments

-- the segments of an access element's or pragma's path
abbrev pub access_segments : List ℕ → List (List ℕ)
access_segments path = without_empty_last (segments (below_root path))

-- the host ends in the labels of the domain, which is lowered, and the path begins with the
-- segments of the access path
abbrev pub IsAllowed : Access → Url → Type 0
IsAllowed access caller =
    IsSomeAnd caller.host
    (λ host. IsSuffix (labels (map to_ascii_lowercase access.domain)) (labels host))
    × IsPrefix (access_segments access.path) (segments (below_root caller.path))
