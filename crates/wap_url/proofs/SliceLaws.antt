-- The slices of what stands before a fragment hold its parts.
use Rattle.std.proofs.Common.{◌≡◌, ℕ, List, Option, refl}
use Rattle.std.specs.Option.{option_copied}
use Rattle.wap_url.specs.declared.parts.Slices.{Slices}
use Rattle.wap_url.specs.Calculation.{scheme_of, host_of, port_of, path_part, query_part}
use Rattle.wap_url.specs.Calculation.{parts_with}
use Rattle.wap_url.specs.inside.Slices.{parts_in}

pub slices_are : (front : List ℕ) (slices : Slices) (fragment : Option (List ℕ))
    → option_copied slices.scheme ≡ scheme_of front → option_copied slices.host ≡ host_of front
    → option_copied slices.port ≡ port_of front
    → slices.path.now ≡ path_part front → option_copied slices.query ≡ query_part front
    → parts_in slices fragment ≡ parts_with front fragment
slices_are front slices fragment scheme host port path query =
    rw (scheme, host, port, path, query) refl
