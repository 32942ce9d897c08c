-- Lists of texts that begin or end with others: the tests, and what they decide.
use Rattle.std.proofs.Common.{◌≡◌, ◌-◌, ℕ, Bool, true, false, List, Option, Some, None}
use Rattle.std.proofs.Common.{length, take, drop, map, Decides, refl}
use Rattle.std.specs.Bool.{IsTrue}
use Rattle.std.specs.Prelude.{◌↔◌, ◌&&◌, IsSomeAnd}
use Rattle.std.specs.Option.{option_map_or}
use Rattle.std.specs.Char.{to_ascii_lowercase}
use Rattle.std.specs.List.{starts_with, ends_with}
use Rattle.std.specs.Cmp.Lexicographic.{bytes_decides}
use Rattle.std.proofs.lemmas.Slice.Eq.{starts_is, ends_is}
use Rattle.std.proofs.lemmas.Bool.{false≢true}
use Rattle.std.proofs.lemmas.Bool.Decides.{same_from_decides}
use Rattle.wap_base.specs.Texts.{is_same_text}
use Rattle.wap_url.specs.declared.url.Url.{Url}
use Rattle.wap_url.specs.declared.access.Access.{Access}
use Rattle.wap_url.specs.Segments.{segments, labels, IsPrefix, IsSuffix}
use Rattle.wap_url.specs.Access.{below_root, access_segments, IsAllowed}
use Rattle.wap_world.specs.Access.{allows, allows_host, allows_path}

prefix_decides : (part whole : List (List ℕ))
    → Decides (starts_with is_same_text whole part) (IsPrefix part whole)
prefix_decides part whole =
    let is = starts_is bytes_decides whole part (starts_with is_same_text whole part) refl in
    (λ so. (drop (length part) whole, is.0 so), λ begins. is.1 begins.0 begins.1)

suffix_decides : (part whole : List (List ℕ))
    → Decides (ends_with is_same_text whole part) (IsSuffix part whole)
suffix_decides part whole =
    let is = ends_is bytes_decides whole part (ends_with is_same_text whole part) refl in
    (λ so. (take (length whole - length part) whole, is.0 so), λ ends. is.1 ends.0 ends.1)

host_decides : (access : Access) (caller : Url) (host : Option (List ℕ)) → caller.host ≡ host
    → Decides (option_map_or (λ host. ends_with is_same_text (labels host)
    (labels (map to_ascii_lowercase access.domain))) host false)
    (IsSomeAnd host
    (λ host. IsSuffix (labels (map to_ascii_lowercase access.domain)) (labels host)))
host_decides access caller None is = (λ so. absurd (false≢true so), λ none. absurd none)
host_decides access caller (Some host) is =
    suffix_decides (labels (map to_ascii_lowercase access.domain)) (labels host)

both : (a b : Bool) (P Q : Type 0) → Decides a P → Decides b Q → Decides (a && b) (P × Q)
both true b P Q one two = (λ so. (one.0 refl, two.0 so), λ so. two.1 so.1)
both false b P Q one two = (λ so. absurd (false≢true so), λ so. one.1 so.0)

-- the test by calculation is the relation
pub allows_decides : (access : Access) (caller : Url)
    → IsTrue (allows access caller) ↔ IsAllowed access caller
allows_decides access caller =
    both (allows_host access caller) (allows_path access caller)
    (IsSomeAnd caller.host
    (λ host. IsSuffix (labels (map to_ascii_lowercase access.domain)) (labels host)))
    (IsPrefix (access_segments access.path) (segments (below_root caller.path)))
    (host_decides access caller caller.host refl)
    (prefix_decides (access_segments access.path) (segments (below_root caller.path)))

pub allows_is : (r : Bool) (access : Access) (caller : Url) → (IsTrue r ↔ IsAllowed access caller)
    → r ≡ allows access caller
allows_is r access caller is =
    same_from_decides r (allows access caller) is (allows_decides access caller)
