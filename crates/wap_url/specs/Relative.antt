-- A URL as seen from another (this project's own, for the header of a request), and the law that
-- leads back.
use Rattle.std.specs.Prelude.{◌≡◌, ℕ, Bool, true, false, ◌&&◌, ◌||◌, not, ◌==◌, if◌then◌else◌}
use Rattle.std.specs.Prelude.{IsSome, List, [], ◌∷◌, ◌++◌, length, Option, Some, None}
use Rattle.std.specs.List.{list_any}
use Rattle.std.specs.Str.{bytes_eq}
use Rattle.wap_url.specs.declared.url.Url.{Url}
use Rattle.wap_url.specs.Characters.{is_slash, is_colon}
use Rattle.wap_base.specs.Cuts.{begins_with}
use Rattle.wap_url.specs.UrlParts.{led_by, IsUrl}
use Rattle.wap_url.specs.Calculation.{begins_with_slashes}
use Rattle.wap_url.specs.Printing.{text_without_fragment, without_fragment, IsNormal}
use Rattle.wap_url.specs.Segments.{segments, all_but_last, last_segment}
use Rattle.wap_url.specs.Joining.{joined, is_dot_segment}
use Rattle.wap_base.specs.Ascii.{question_mark}

-- both texts are there and the same, or neither is there
abbrev pub same_text : Option (List ℕ) → Option (List ℕ) → Bool
same_text None None = true
same_text None (Some b) = false
same_text (Some a) None = false
same_text (Some a) (Some b) = bytes_eq a b

-- both ports are there and the same, or neither is there
abbrev pub same_port : Option ℕ → Option ℕ → Bool
same_port None None = true
same_port None (Some n) = false
same_port (Some m) None = false
same_port (Some m) (Some n) = m == n

-- both have the same segments
abbrev pub same_segments : List (List ℕ) → List (List ℕ) → Bool
same_segments [] [] = true
same_segments [] (t ∷ ts) = false
same_segments (s ∷ ss) [] = false
same_segments (s ∷ ss) (t ∷ ts) = bytes_eq s t && same_segments ss ts

-- scheme, host and port are the same
abbrev pub same_site : Url → Url → Bool
same_site base u =
    same_text base.scheme u.scheme && (same_text base.host u.host && same_port base.port u.port)

-- the paths agree up to their last slash
abbrev pub same_folder : List ℕ → List ℕ → Bool
same_folder base path = same_segments (all_but_last (segments base)) (all_but_last (segments path))

-- a segment that can stand alone: it is not empty and would not be read as a scheme
abbrev pub stands_alone : List ℕ → Bool
stands_alone s = not (length s == 0) && not (list_any is_colon s)

-- the path as seen from another of the same site: its last segment in the same folder, else all
abbrev pub local_path : List ℕ → List ℕ → List ℕ
local_path base path =
    let page = last_segment (segments path) in
    if same_folder base path && stands_alone page then page else path

-- the URL as seen from the base, without its fragment
abbrev pub relative_form : Url → Url → List ℕ
relative_form base u =
    if not (same_site base u) || begins_with_slashes u.path then text_without_fragment u
    else local_path base.path u.path ++ led_by (question_mark ∷ []) u.query

-- a URL as it is read, of a page: with scheme and host (as an http URL has), its path from the root
-- and without dot segments
pub record IsPage (u : Url) : Type 0 where
  pub normal : IsNormal u
  pub scheme : IsSome u.scheme
  pub host : IsSome u.host
  pub from_root : begins_with is_slash u.path ≡ true
  pub no_dots : list_any is_dot_segment (segments u.path) ≡ false

-- the text is read as a reference, and each that it is read as joins the base to this URL
pub record LeadsBack (base : Url) (text : List ℕ) (u : Url) : Type 0 where
  pub is_read : (r : Url) × IsUrl text r
  pub joins : (r : Url) → IsUrl text r → joined base r ≡ without_fragment u
