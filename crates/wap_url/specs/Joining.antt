-- A reference joined to a base (RFC 2396, section 5.2). This project's own: dot segments go from
-- every path, also from that of a reference with a scheme, an authority or a leading slash; `..`
-- never goes above the root; an empty reference gives the base; and under a host an empty path
-- becomes the root.
use Rattle.std.specs.Prelude.{ℕ, Bool, ◌||◌, ◌&&◌, if◌then◌else◌, is_some}
use Rattle.std.specs.Prelude.{is_none, List, [], ◌∷◌, ◌++◌, ◌==◌, length}
use Rattle.std.specs.List.{fold}
use Rattle.std.specs.Str.{bytes_eq}
use Rattle.wap_url.specs.declared.url.Url.{Url}
use Rattle.wap_url.specs.Characters.{is_slash}
use Rattle.wap_base.specs.Cuts.{begins_with}
use Rattle.wap_url.specs.Segments.{segments, path_of, all_but_last, last_segment}
use Rattle.wap_base.specs.Ascii.{full_stop, slash}

-- the segment `.`, the folder itself
abbrev pub is_here : List ℕ → Bool
is_here s = bytes_eq s (full_stop ∷ [])

-- the segment `..`, the folder above
abbrev pub is_above : List ℕ → Bool
is_above s = bytes_eq s (full_stop ∷ full_stop ∷ [])

-- one of these two
abbrev pub is_dot_segment : List ℕ → Bool
is_dot_segment s = is_here s || is_above s

-- One more segment after those that are kept: `.` goes, and `..` takes the one before it, if there
-- is one.
abbrev pub kept_with : List (List ℕ) → List ℕ → List (List ℕ)
kept_with kept s =
    if is_here s then kept else if is_above s then all_but_last kept else kept ++ s ∷ []

-- a last dot segment leaves a slash at the end
abbrev pub end_of : List (List ℕ) → List (List ℕ)
end_of segments = if is_dot_segment (last_segment segments) then [] ∷ [] else []

-- what is kept of segments, taken one after the other
abbrev pub without_dots : List (List ℕ) → List (List ℕ)
without_dots segments = fold kept_with [] segments ++ end_of segments

-- the segments without dot segments; `..` does not take the root, which a slash at the beginning is
abbrev pub resolved : List (List ℕ) → List (List ℕ)
resolved [] = []
resolved (s ∷ []) = without_dots (s ∷ [])
resolved (s ∷ t ∷ more) =
    if length s == 0 then [] ∷ without_dots (t ∷ more) else without_dots (s ∷ t ∷ more)

-- The base's segments but for its last. Under a host an empty path is the root.
abbrev pub lead_segments : Url → List (List ℕ)
lead_segments base =
    if is_some base.host && length base.path == 0 then [] ∷ []
    else all_but_last (segments base.path)

-- the reference's path, or the base's up to its last slash and then the reference's
abbrev pub merged_path : Url → Url → List ℕ
merged_path base r =
    if begins_with is_slash r.path then r.path else path_of (lead_segments base ++ segments r.path)

-- The reference, with what it takes from the base.
abbrev pub target : Url → Url → Url
target base r =
    if is_some r.scheme then r
    else if is_some r.host then record r { scheme = base.scheme }
    else if length r.path == 0 && is_none r.query then record base { fragment = r.fragment }
    else record r {
      scheme = base.scheme;
      host = base.host;
      port = base.port;
      path = merged_path base r;
    }

-- under a host an empty path is the root
abbrev pub rooted : Bool → List ℕ → List ℕ
rooted under_host path = if under_host && length path == 0 then slash ∷ [] else path

-- the path without dot segments (steps 6c to 6f)
abbrev pub resolved_path : List ℕ → List ℕ
resolved_path path = path_of (resolved (segments path))

-- the reference joined to the base, its path without dot segments
abbrev pub joined : Url → Url → Url
joined base r =
    let t = target base r in
    record t { path = rooted (is_some t.host) (resolved_path t.path) }
