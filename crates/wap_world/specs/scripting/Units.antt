-- What a browser asks of a unit: who may call it, and its external functions (WAP-193, section 9).
use Rattle.std.specs.Prelude.{ℕ, ◌&&◌, is_none, if◌then◌else◌, List, [], ◌∷◌, Option, Some, None}
use Rattle.std.specs.Prelude.{map, slice_get, option_and_then}
use Rattle.std.specs.Option.{option_map}
use Rattle.std.specs.Map.{lookup}
use Rattle.wap_base.specs.Texts.{is_same_text}
use Rattle.wap_unit.specs.declared.unit.Unit.{Unit}
use Rattle.wap_unit.specs.declared.unit.Pragma.{Pragma}
use Rattle.wap_unit.specs.declared.unit.Pragma.TheVariants.{Domain, Path, Property, Scheme}
use Rattle.wap_unit.specs.Strings.{string_at}
use Rattle.wap_world.specs.Shelves.{Entrance}
use Rattle.wap_world.specs.Sites.{External}

-- the constant of the first access domain
abbrev pub domain_in : List Pragma → Option ℕ
domain_in [] = None
domain_in (Domain index ∷ pragmas) = Some index
domain_in (Path index ∷ pragmas) = domain_in pragmas
domain_in (Property name content ∷ pragmas) = domain_in pragmas
domain_in (Scheme name content scheme ∷ pragmas) = domain_in pragmas

-- the constant of the first access path
abbrev pub path_in : List Pragma → Option ℕ
path_in [] = None
path_in (Domain index ∷ pragmas) = path_in pragmas
path_in (Path index ∷ pragmas) = Some index
path_in (Property name content ∷ pragmas) = path_in pragmas
path_in (Scheme name content scheme ∷ pragmas) = path_in pragmas

-- who may call: without a pragma of either kind anybody may
abbrev pub entrance_in : Unit → Option Entrance
entrance_in unit =
    let domain = option_and_then (string_at unit) (domain_in unit.pragmas) in
    let path = option_and_then (string_at unit) (path_in unit.pragmas) in
    if is_none domain && is_none path then None
    else Some (record { domain = domain; path = path })

-- the function that a unit gives a name
abbrev pub index_named : Unit → List ℕ → Option ℕ
index_named unit name =
    lookup (λ other. is_same_text other name) (map (λ one. (one.1, one.0)) unit.names)

-- the external function of a name, where the unit has a function of its index
abbrev pub external_in : Unit → List ℕ → Option External
external_in unit name = option_and_then (λ index.
    option_map (λ code. record { index = index; arguments = code.args })
    (slice_get unit.functions index)) (index_named unit name)
