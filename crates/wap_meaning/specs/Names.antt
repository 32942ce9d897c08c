-- What the names of a function mean (WAP-193, sections 6.1.8, 6.2 and 6.4.2): variables and
-- functions of the program by their places, units by their URLs, libraries by their numbers.
use Rattle.std.specs.Prelude.{ℕ, false, List, [], ◌∷◌, Option, Some, None, if◌then◌else◌}
use Rattle.std.specs.List.{filter_map, flat_map}
use Rattle.wap_base.specs.Texts.{is_same_text}
use Rattle.wap_unit.specs.Libraries.{lib_named}
use Rattle.wap_grammar.specs.declared.program.program.Id.{Id}
use Rattle.wap_grammar.specs.declared.program.program.Use.{Use}
use Rattle.wap_grammar.specs.declared.program.program.Use.TheVariants.{Url}
use Rattle.wap_grammar.specs.declared.program.program.Function.{Function}
use Rattle.wap_grammar.specs.declared.program.program.Program.{Program}
use Rattle.wap_scope.specs.Names.{mentions, said, names_declared}
use Rattle.wap_scope.specs.Meanings.{function_names}
use Rattle.wap_scope.specs.accepted.Known.{place_of}
use Rattle.wap_execution.specs.Effects.{Called, local, library, external}

-- what the names in a function may mean
pub record Names : Type 0 where
  -- its variables in the order of their declarations, the parameters first
  pub variables : List (List ℕ)
  -- the functions of its program
  pub functions : List (List ℕ)
  -- the names of other units, each with the URL that it stands for
  pub urls : List (List ℕ × List ℕ)

-- ---- what one name means

-- the URL that the name of a unit stands for, and the empty text where it stands for none
abbrev pub url_of : List ℕ → List (List ℕ × List ℕ) → List ℕ
url_of name [] = []
url_of name (pair ∷ pairs) = if is_same_text name pair.0 then pair.1 else url_of name pairs

-- the place of a variable
abbrev pub variable_at : Names → Id → ℕ
variable_at names v = place_of v.name names.variables

-- the place of a function of the program
abbrev pub function_at : Names → Id → ℕ
function_at names f = place_of f.name names.functions

-- the numbers of a library and of its function by their row in the table of libraries
abbrev pub library_numbers : Option (ℕ × ℕ × ℕ) → ℕ × ℕ
library_numbers None = (0, 0)
library_numbers (Some row) = (row.0, row.1)

-- the numbers of a library and of its function
abbrev pub numbers_of : Id → Id → ℕ × ℕ
numbers_of l f = library_numbers (lib_named l.name f.name)

-- ---- what is called

-- `f(..)` calls a function of the program
abbrev pub callee_local : Names → Id → Called
callee_local names f = local (function_at names f)

-- `U#f(..)` calls a function of another unit
abbrev pub callee_external : Names → Id → Id → Called
callee_external names unit f = external (url_of unit.name names.urls) f.name

-- `L.f(..)` calls a function of a library
abbrev pub callee_library : Id → Id → Called
callee_library l f = let numbers = numbers_of l f in library numbers.0 numbers.1

-- ---- the names of a function of a program

-- the variables that are no parameters, in the order of their declarations
abbrev pub locals : Function → List (List ℕ)
locals f = names_declared (flat_map (λ s. mentions s false) f.body)

-- the name and the URL of a pragma that makes a unit known
abbrev pub url_in : Use → Option (List ℕ × List ℕ)
url_in (Url u url) = Some (u.name, url)
url_in _ = None

-- what the names in a function of a program mean
abbrev pub names_in : Program → Function → Names
names_in p f = record {
  variables = names_declared (said f);
  functions = function_names p;
  urls = filter_map url_in p.uses;
}
