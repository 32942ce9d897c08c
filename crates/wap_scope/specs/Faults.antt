-- The faults of a program's names, in the order of the source, and at one place in the order in
-- which `ScopeFault` lists them. A program without any is scoped. This project's own.
use Rattle.std.specs.Prelude.{ℕ, Bool, true, false, not, nat_le, List, []}
use Rattle.std.specs.Prelude.{◌∷◌, ◌++◌, length, Option, Some, None}
use Rattle.std.specs.Option.{is_some, is_none}
use Rattle.wap_unit.specs.Libraries.{lib_named}
use Rattle.wap_grammar.specs.declared.program.program.Use.{Use}
use Rattle.wap_grammar.specs.declared.program.program.Use.TheVariants.{Url, Access, Agent, Note}
use Rattle.wap_grammar.specs.declared.program.program.Function.{Function}
use Rattle.wap_grammar.specs.declared.program.program.Program.{Program}
use Rattle.wap_scope.specs.declared.limits.TheConstants.{VARIABLE_LIMIT, FUNCTION_LIMIT}
use Rattle.wap_scope.specs.declared.limits.TheConstants.{ARGUMENT_LIMIT}
use Rattle.wap_scope.specs.declared.fault.ScopeFault.{ScopeFault}
use Rattle.wap_scope.specs.declared.fault.ScopeFault.TheVariants as fault
use Rattle.wap_scope.specs.Names.{Reference, Variable, Local, External, Library}
use Rattle.wap_scope.specs.Names.{Mention, Declares, Refers, Jumps, said}
use Rattle.wap_scope.specs.Names.{names_declared, function_named, units, accesses}
use Rattle.wap_scope.specs.Scoped.{is_among, arity_of, library_arity, is_taken}

-- the fault where something is wrong, else none
abbrev pub fault_if : Bool → ScopeFault → List ScopeFault
fault_if true fault = fault ∷ []
fault_if false fault = []

-- what every function of a program may name: units, and functions, by how many parameters that of
-- a name has
pub record Scope : Type 0 where
  pub units : List (List ℕ)
  pub arity : List ℕ → Option ℕ

-- the units and functions of a program
abbrev pub scope_of : Program → Scope
scope_of p = record { units = units p.uses; arity = arity_of p.functions }

-- ---- in a function

-- the faults of a name, where these variables are known
abbrev pub reference_faults : Scope → List (List ℕ) → Reference → List ScopeFault
reference_faults scope known (Variable v) =
    fault_if (not (is_among v.name known)) (fault.NoVariable v.span)
reference_faults scope known (Local f count) =
    fault_if (is_none (scope.arity f.name)) (fault.NoFunction f.span) ++
    fault_if (not (is_taken count (scope.arity f.name))) (fault.Arguments f.span)
reference_faults scope known (External unit f count) =
    fault_if (not (is_among unit.name scope.units)) (fault.NoUnit unit.span) ++
    fault_if (not (nat_le count ARGUMENT_LIMIT)) (fault.Arguments f.span)
reference_faults scope known (Library library f count) =
    fault_if (is_none (lib_named library.name f.name)) (fault.NoLibrary library.span) ++
    fault_if (not (is_taken count (library_arity library.name f.name))) (fault.Arguments f.span)

-- the faults of a declaration, a name or a jump, where these variables are known
abbrev pub mention_faults : Scope → List (List ℕ) → Mention → List ScopeFault
mention_faults scope known (Declares v) =
    fault_if (is_among v.name known) (fault.TwoVariables v.span) ++
    fault_if (nat_le VARIABLE_LIMIT (length known)) (fault.TooManyLocals v.span)
mention_faults scope known (Refers r) = reference_faults scope known r
mention_faults scope known (Jumps word inside) = fault_if (not inside) (fault.LoneBreak word)

-- the faults of items one by one, each by what stands before it
abbrev pub one_by_one : {X : Type 0} → (List X → X → List ScopeFault) → List X → List X →
    List ScopeFault
one_by_one rule before [] = []
one_by_one rule before (here ∷ after) =
    rule before here ++ one_by_one rule (before ++ here ∷ []) after

-- the same after other mentions of the function
abbrev pub mention_rule : Scope → List Mention → Mention → List ScopeFault
mention_rule scope before here = mention_faults scope (names_declared before) here

-- the faults of a function after these: of its name, and of what it says
abbrev pub function_rule : Scope → List Function → Function → List ScopeFault
function_rule scope before f =
    fault_if (is_some (function_named f.name.name before)) (fault.TwoFunctions f.name.span) ++
    (fault_if (nat_le FUNCTION_LIMIT (length before)) (fault.TooManyFunctions f.name.span) ++
    one_by_one (mention_rule scope) [] (said f))

-- the faults of a pragma after these
abbrev pub use_rule : List Use → Use → List ScopeFault
use_rule before (Url u url) = fault_if (is_among u.name (units before)) (fault.TwoUnits u.span)
use_rule before (Access domain path span) =
    fault_if (nat_le 1 (length (accesses before))) (fault.TwoAccess span)
use_rule before (Agent name content scheme) = []
use_rule before Note = []

-- all faults of a program: those of its pragmas, then those of its functions
abbrev pub faults : Program → List ScopeFault
faults p =
    one_by_one use_rule [] p.uses ++ one_by_one (function_rule (scope_of p)) [] p.functions

-- the first of some faults, if there is one
abbrev pub first_fault : List ScopeFault → Option ScopeFault
first_fault [] = None
first_fault (first ∷ others) = Some first
