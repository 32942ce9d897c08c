-- What each name of a scoped program means: one thing. This project's own.
use Rattle.std.specs.Prelude.{◌≡◌, ℕ, ◌<◌, ◌≤◌, List, [], length, map, slice_index_or, Some}
use Rattle.wap_unit.specs.Libraries.{lib_named}
use Rattle.wap_grammar.specs.declared.program.program.Id.{Id}
use Rattle.wap_grammar.specs.declared.program.program.Program.{Program}
use Rattle.wap_scope.specs.declared.limits.TheConstants.{VARIABLE_LIMIT, FUNCTION_LIMIT}
use Rattle.wap_scope.specs.declared.limits.TheConstants.{ARGUMENT_LIMIT}
use Rattle.wap_scope.specs.Names.{Variable, Local, External, Library, Mention}
use Rattle.wap_scope.specs.Names.{Refers, said, names_declared, units}
use Rattle.wap_scope.specs.Scoped.{Says}

-- a name stands at this place of a list, and at no other
pub record StandsOnce (name : List ℕ) (names : List (List ℕ)) (place : ℕ) : Type 0 where
  pub within : place < length names
  pub there : slice_index_or names place [] ≡ name
  pub only : (other : ℕ) → other < length names → slice_index_or names other [] ≡ name →
      other ≡ place

-- the names of the functions of a program
abbrev pub function_names : Program → List (List ℕ)
function_names p = map (λ f. f.name.name) p.functions

-- how many parameters each of its functions has
abbrev pub parameter_counts : Program → List ℕ
parameter_counts p = map (λ f. length f.params) p.functions

-- each name of a program means one thing
pub record HaveMeanings (p : Program) : Type 0 where
  -- a variable that is used is one of its function's, and declared before
  pub variable : (before : List Mention) (v : Id) → (says : Says p before (Refers (Variable v))) →
      (place : ℕ) × StandsOnce v.name (names_declared (said says.function)) place ×
      (place < length (names_declared before)) × (place < VARIABLE_LIMIT)
  -- a call of a function of the program is of one, which has as many parameters
  pub local : (before : List Mention) (f : Id) (count : ℕ) →
      Says p before (Refers (Local f count)) →
      (place : ℕ) × StandsOnce f.name (function_names p) place × (place < FUNCTION_LIMIT) ×
      (slice_index_or (parameter_counts p) place 0 ≡ count)
  -- a call of a function of another unit is of one unit
  pub external : (before : List Mention) (unit f : Id) (count : ℕ) →
      Says p before (Refers (External unit f count)) →
      (place : ℕ) × StandsOnce unit.name (units p.uses) place × (count ≤ ARGUMENT_LIMIT)
  -- and one of a library of one row of their table, which has as many arguments
  pub library : (before : List Mention) (library f : Id) (count : ℕ) →
      Says p before (Refers (Library library f count)) →
      (number : ℕ) × (function : ℕ) ×
      (lib_named library.name f.name ≡ Some (number, function, count))
