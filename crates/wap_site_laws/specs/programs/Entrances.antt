-- Who may call a program, and its external functions (WAP-193, sections 6.4 and 6.7).
use Rattle.std.specs.Prelude.{ℕ, ◌+◌, Bool, ◌&&◌, is_none, if◌then◌else◌, List, [], ◌∷◌, length}
use Rattle.std.specs.Prelude.{Option, Some, None}
use Rattle.wap_base.specs.Texts.{is_same_text}
use Rattle.wap_grammar.specs.declared.program.program.Use.{Use}
use Rattle.wap_grammar.specs.declared.program.program.Use.TheVariants.{Url, Access, Agent, Note}
use Rattle.wap_grammar.specs.declared.program.program.Function.{Function}
use Rattle.wap_grammar.specs.declared.program.program.Program.{Program}
use Rattle.wap_meaning.specs.compiled.Units.{is_short}
use Rattle.wap_world.specs.Shelves.{Entrance}
use Rattle.wap_world.specs.Sites.{External}

-- ---- who may call it

-- the first access domain
abbrev pub domain_of : List Use → Option (List ℕ)
domain_of [] = None
domain_of (Url u url ∷ uses) = domain_of uses
domain_of (Access None path span ∷ uses) = domain_of uses
domain_of (Access (Some domain) path span ∷ uses) = Some domain
domain_of (Agent name content scheme ∷ uses) = domain_of uses
domain_of (Note ∷ uses) = domain_of uses

-- the first access path
abbrev pub path_of : List Use → Option (List ℕ)
path_of [] = None
path_of (Url u url ∷ uses) = path_of uses
path_of (Access domain None span ∷ uses) = path_of uses
path_of (Access domain (Some path) span ∷ uses) = Some path
path_of (Agent name content scheme ∷ uses) = path_of uses
path_of (Note ∷ uses) = path_of uses

-- who may call: what the access pragma says, and without one anybody
abbrev pub entrance : Program → Option Entrance
entrance p =
    let domain = domain_of p.uses in
    let path = path_of p.uses in
    if is_none domain && is_none path then None
    else Some (record { domain = domain; path = path })

-- ---- its external functions

-- whether a function is external and has a name; one that is too long for a unit names none
abbrev pub is_called : List ℕ → Function → Bool
is_called name f = (f.external && is_short f.name.name) && is_same_text f.name.name name

-- the first external function of a name among those from an index on
abbrev pub external_from : ℕ → List Function → List ℕ → Option External
external_from index [] name = None
external_from index (f ∷ functions) name =
    if is_called name f then Some (record { index = index; arguments = length f.params })
    else external_from (index + 1) functions name

-- the external function of a name, and how many arguments it takes
abbrev pub external : Program → List ℕ → Option External
external p name = external_from 0 p.functions name
