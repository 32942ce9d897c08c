-- What is so in a program whose names are in order.
use Rattle.std.proofs.Common.{◌≡◌, ℕ, ◌<◌, ◌≤◌, Bool, true, false, List, [], ◌∷◌, length, Option}
use Rattle.std.proofs.Common.{Some, None, nat_le, refl, arith}
use Rattle.std.specs.Option.{is_some, IsSome}
use Rattle.std.proofs.lemmas.Bool.{true_from_ne_false as holds, false_from_ne_true as fails}
use Rattle.std.proofs.lemmas.Bool.Decides.{nat_tests}
use Rattle.wap_unit.specs.Libraries.{lib_named}
use Rattle.wap_grammar.specs.declared.program.program.Span.{Span}
use Rattle.wap_grammar.specs.declared.program.program.Id.{Id}
use Rattle.wap_grammar.specs.declared.program.program.Use.{Use}
use Rattle.wap_grammar.specs.declared.program.program.Use.TheVariants.{Url, Access}
use Rattle.wap_grammar.specs.declared.program.program.Function.{Function}
use Rattle.wap_grammar.specs.declared.program.program.Program.{Program}
use Rattle.wap_scope.specs.declared.limits.TheConstants.{VARIABLE_LIMIT, FUNCTION_LIMIT}
use Rattle.wap_scope.specs.Names.{Reference, Variable, Local, External, Library, Mention, Declares}
use Rattle.wap_scope.specs.Names.{Refers, Jumps, names_declared, function_named, units, accesses}
use Rattle.wap_scope.specs.Scoped.{is_among, takes, Says, HasFunction, HasUse, IsScoped}
use Rattle.wap_scope.specs.Scoped as wrong

-- what is so where the names of a program are in order, fault by fault
pub record InOrder (p : Program) : Type 0 where
  -- a variable is used after its declaration in the same function
  pub no_variable : (before : List Mention) (v : Id) → Says p before (Refers (Variable v)) →
      is_among v.name (names_declared before) ≡ true
  -- no variable or parameter of a function is declared again
  pub two_variables : (before : List Mention) (v : Id) → Says p before (Declares v) →
      is_among v.name (names_declared before) ≡ false
  -- a call without `#` and `.` is of a function of the program
  pub no_function : (before : List Mention) (f : Id) (count : ℕ) →
      Says p before (Refers (Local f count)) → IsSome (function_named f.name p.functions)
  -- no two functions have one name
  pub two_functions : (before : List Function) (f : Function) → HasFunction p before f →
      function_named f.name.name before ≡ None
  -- a call has as many arguments as its function takes
  pub arguments : (before : List Mention) (r : Reference) → Says p before (Refers r) →
      takes p.functions r ≡ true
  -- the unit of a call has its pragma
  pub no_unit : (before : List Mention) (unit f : Id) (count : ℕ) →
      Says p before (Refers (External unit f count)) → is_among unit.name (units p.uses) ≡ true
  -- no two units have one name
  pub two_units : (before : List Use) (u : Id) (url : List ℕ) → HasUse p before (Url u url) →
      is_among u.name (units before) ≡ false
  -- a library that is called is there, and has the function
  pub no_library : (before : List Mention) (library f : Id) (count : ℕ) →
      Says p before (Refers (Library library f count)) → IsSome (lib_named library.name f.name)
  -- `break` and `continue` stand in loops
  pub lone_break : (before : List Mention) (word : Span) (inside : Bool) →
      Says p before (Jumps word inside) → inside ≡ true
  -- who may call the unit is said once
  pub two_access : (before : List Use) (domain path : Option (List ℕ)) (span : Span) →
      HasUse p before (Access domain path span) → accesses before ≡ []
  -- a function has at most so many variables and parameters
  pub too_many_locals : (before : List Mention) (v : Id) → Says p before (Declares v) →
      length (names_declared before) < VARIABLE_LIMIT
  -- and a program at most so many functions
  pub too_many_functions : (before : List Function) (f : Function) → HasFunction p before f →
      length before < FUNCTION_LIMIT

-- ---- what isn't wrong

none_there : {X : Type 0} (o : Option X) → (IsSome o → ⊥) → o ≡ None
none_there None never = refl
none_there (Some x) never = absurd (never refl)

nothing : {X : Type 0} (xs : List X) → ((xs ≡ [] → ⊥) → ⊥) → xs ≡ []
nothing [] never = refl
nothing (x ∷ xs) never = absurd (never (λ e. cc))

fewer : (count limit : ℕ) → (limit ≤ count → ⊥) → count < limit
fewer count limit never = by (nat_le limit count) refl
  where
    by : (b : Bool) → nat_le limit count ≡ b → count < limit
    by true past = absurd (never (grind (arith, nat_tests)))
    by false past = grind (arith, nat_tests)

inside_loop : (p : Program) → IsScoped p → (before : List Mention) (word : Span)
    (inside : Bool) → Says p before (Jumps word inside) → inside ≡ true
inside_loop p scoped before word true says = refl
inside_loop p scoped before word false says = absurd (scoped _ (wrong.lone_break before word says))

pub in_order : (p : Program) → IsScoped p → InOrder p
in_order p scoped = record {
  no_variable = λ before v says. holds (is_among v.name (names_declared before)) (λ so.
      scoped _ (wrong.no_variable before v says so));
  two_variables = λ before v says. fails (is_among v.name (names_declared before)) (λ so.
      scoped _ (wrong.two_variables before v says so));
  no_function = λ before f count says. holds (is_some (function_named f.name p.functions)) (λ so.
      scoped _ (wrong.no_function before f count says so));
  two_functions = λ before f has. none_there (function_named f.name.name before) (λ so.
      scoped _ (wrong.two_functions before f has so));
  arguments = λ before r says. holds (takes p.functions r) (λ so.
      scoped _ (wrong.arguments before r says so));
  no_unit = λ before unit f count says. holds (is_among unit.name (units p.uses)) (λ so.
      scoped _ (wrong.no_unit before unit f count says so));
  two_units = λ before u url has. fails (is_among u.name (units before)) (λ so.
      scoped _ (wrong.two_units before u url has so));
  no_library = λ before l f count says. holds (is_some (lib_named l.name f.name)) (λ so.
      scoped _ (wrong.no_library before l f count says so));
  lone_break = inside_loop p scoped;
  two_access = λ before domain path span has. nothing (accesses before) (λ so.
      scoped _ (wrong.two_access before domain path span has so));
  too_many_locals = λ before v says. fewer (length (names_declared before)) VARIABLE_LIMIT (λ so.
      scoped _ (wrong.too_many_locals before v says so));
  too_many_functions = λ before f has. fewer (length before) FUNCTION_LIMIT (λ so.
      scoped _ (wrong.too_many_functions before f has so));
}
