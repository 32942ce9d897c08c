-- What is wrong with the names of a program, and when they are in order (WAP-193, sections 6.1.8,
-- 6.2, 6.4, 6.5 and 6.7; the numbers of variables, functions and arguments that a unit has room for
-- are WAP-193, section 9).
use Rattle.std.specs.Prelude.{◌≡◌, ◌≢◌, ℕ, ◌≤◌, Bool, true, false, nat_eq, nat_le, List}
use Rattle.std.specs.Prelude.{[], ◌∷◌, ◌++◌, length, Option, Some, None}
use Rattle.std.specs.List.{list_any}
use Rattle.std.specs.Option.{option_map, IsSome, IsNone}
use Rattle.wap_base.specs.Texts.{is_same_text}
use Rattle.wap_unit.specs.Libraries.{lib_named}
use Rattle.wap_grammar.specs.declared.program.program.Span.{Span}
use Rattle.wap_grammar.specs.declared.program.program.Id.{Id}
use Rattle.wap_grammar.specs.declared.program.program.Use.{Use}
use Rattle.wap_grammar.specs.declared.program.program.Use.TheVariants.{Url, Access}
use Rattle.wap_grammar.specs.declared.program.program.Function.{Function}
use Rattle.wap_grammar.specs.declared.program.program.Program.{Program}
use Rattle.wap_scope.specs.declared.limits.TheConstants.{VARIABLE_LIMIT, FUNCTION_LIMIT}
use Rattle.wap_scope.specs.declared.limits.TheConstants.{ARGUMENT_LIMIT}
use Rattle.wap_scope.specs.declared.fault.ScopeFault.{ScopeFault}
use Rattle.wap_scope.specs.declared.fault.ScopeFault.TheVariants as fault
use Rattle.wap_scope.specs.Names.{Reference, Variable, Local, External, Library}
use Rattle.wap_scope.specs.Names.{Mention, Declares, Refers, Jumps, said}
use Rattle.wap_scope.specs.Names.{names_declared, function_named, units, accesses}

-- whether a name is among some
abbrev pub is_among : List ℕ → List (List ℕ) → Bool
is_among name names = list_any (is_same_text name) names

-- how many parameters the function of a name has, if there is one
abbrev pub arity_of : List Function → List ℕ → Option ℕ
arity_of functions name = option_map (λ f. length f.params) (function_named name functions)

-- how many arguments a function of a library takes, if there is one
abbrev pub library_arity : List ℕ → List ℕ → Option ℕ
library_arity library name = option_map (λ row. row.2) (lib_named library name)

-- whether a number of arguments fits what takes so many; what isn't there takes any number
abbrev pub is_taken : ℕ → Option ℕ → Bool
is_taken count None = true
is_taken count (Some arity) = nat_eq arity count

-- whether what is called takes so many arguments
abbrev pub takes : List Function → Reference → Bool
takes functions (Variable v) = true
takes functions (Local f count) = is_taken count (arity_of functions f.name)
takes functions (External unit f count) = nat_le count ARGUMENT_LIMIT
takes functions (Library library f count) = is_taken count (library_arity library.name f.name)

-- what a reference names: a variable, or the function that is called
abbrev pub name_of : Reference → Id
name_of (Variable v) = v
name_of (Local f count) = f
name_of (External unit f count) = f
name_of (Library library f count) = f

-- ---- places

-- a function of the program says this, after it has said that
pub record Says (p : Program) (before : List Mention) (here : Mention) : Type 0 where
  pub earlier : List Function
  pub function : Function
  pub later : List Function
  pub functions : p.functions ≡ earlier ++ function ∷ later
  pub after : List Mention
  pub whole : said function ≡ before ++ here ∷ after

-- the program has this function after those
pub record HasFunction (p : Program) (before : List Function) (here : Function) : Type 0 where
  pub after : List Function
  pub whole : p.functions ≡ before ++ here ∷ after

-- and this pragma after those
pub record HasUse (p : Program) (before : List Use) (here : Use) : Type 0 where
  pub after : List Use
  pub whole : p.uses ≡ before ++ here ∷ after

-- ---- the rules

-- the faults of a program's names, each with the place at which it is seen; that memory ran out is
-- none
pub data IsFault (p : Program) : ScopeFault → Type 0 where
  -- a variable is used that isn't declared before in the same function
  no_variable : (before : List Mention) (v : Id) → Says p before (Refers (Variable v)) →
      is_among v.name (names_declared before) ≡ false → IsFault p (fault.NoVariable v.span)
  -- a variable or parameter of a function is declared again
  two_variables : (before : List Mention) (v : Id) → Says p before (Declares v) →
      is_among v.name (names_declared before) ≡ true → IsFault p (fault.TwoVariables v.span)
  -- a call without `#` and `.` is of no function of the program
  no_function : (before : List Mention) (f : Id) (count : ℕ) →
      Says p before (Refers (Local f count)) → IsNone (function_named f.name p.functions) →
      IsFault p (fault.NoFunction f.span)
  -- an earlier function has the name of this one
  two_functions : (before : List Function) (f : Function) → HasFunction p before f →
      IsSome (function_named f.name.name before) → IsFault p (fault.TwoFunctions f.name.span)
  -- a call has a number of arguments that its function doesn't take
  arguments : (before : List Mention) (r : Reference) → Says p before (Refers r) →
      takes p.functions r ≡ false → IsFault p (fault.Arguments (name_of r).span)
  -- the unit of a call has no pragma
  no_unit : (before : List Mention) (unit f : Id) (count : ℕ) →
      Says p before (Refers (External unit f count)) →
      is_among unit.name (units p.uses) ≡ false → IsFault p (fault.NoUnit unit.span)
  -- an earlier unit has the name of this one
  two_units : (before : List Use) (u : Id) (url : List ℕ) → HasUse p before (Url u url) →
      is_among u.name (units before) ≡ true → IsFault p (fault.TwoUnits u.span)
  -- a library that is called isn't there, or hasn't the function
  no_library : (before : List Mention) (library f : Id) (count : ℕ) →
      Says p before (Refers (Library library f count)) →
      IsNone (lib_named library.name f.name) → IsFault p (fault.NoLibrary library.span)
  -- a `break` or `continue` stands in no loop
  lone_break : (before : List Mention) (word : Span) → Says p before (Jumps word false) →
      IsFault p (fault.LoneBreak word)
  -- who may call the unit is said again
  two_access : (before : List Use) (domain path : Option (List ℕ)) (span : Span) →
      HasUse p before (Access domain path span) → accesses before ≢ [] →
      IsFault p (fault.TwoAccess span)
  -- a function has so many variables and parameters before this one
  too_many_locals : (before : List Mention) (v : Id) → Says p before (Declares v) →
      VARIABLE_LIMIT ≤ length (names_declared before) → IsFault p (fault.TooManyLocals v.span)
  -- a program has so many functions before this one
  too_many_functions : (before : List Function) (f : Function) → HasFunction p before f →
      FUNCTION_LIMIT ≤ length before → IsFault p (fault.TooManyFunctions f.name.span)

-- the names of a program are in order
abbrev pub IsScoped : Program → Type 0
IsScoped p = (why : ScopeFault) → ¬ IsFault p why
