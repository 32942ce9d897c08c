-- Where the names of a program stand, and those of its faults. This project's own.
use Rattle.std.specs.Prelude.{◌≡◌, ℕ, ◌<◌, ◌≤◌, ◌⊎◌, List, [], ◌∷◌, ◌++◌, Option, Some, None}
use Rattle.std.specs.List.{filter_map, flat_map}
use Rattle.wap_grammar.specs.declared.program.program.Span.{Span}
use Rattle.wap_grammar.specs.declared.program.program.Use.{Use}
use Rattle.wap_grammar.specs.declared.program.program.Use.TheVariants.{Url, Access, Agent, Note}
use Rattle.wap_grammar.specs.declared.program.program.Function.{Function}
use Rattle.wap_grammar.specs.declared.program.program.Program.{Program}
use Rattle.wap_scope.specs.declared.fault.ScopeFault.{ScopeFault}
use Rattle.wap_scope.specs.declared.fault.ScopeFault.TheVariants as fault
use Rattle.wap_scope.specs.Names.{Reference, Variable, Local, External, Library}
use Rattle.wap_scope.specs.Names.{Mention, Declares, Refers, Jumps, said}

-- where a name of an expression stands; that of a unit or a library stands before its function's
abbrev pub reference_places : Reference → List Span
reference_places (Variable v) = v.span ∷ []
reference_places (Local f count) = f.span ∷ []
reference_places (External unit f count) = unit.span ∷ f.span ∷ []
reference_places (Library library f count) = library.span ∷ f.span ∷ []

-- where what a statement says stands
abbrev pub mention_places : Mention → List Span
mention_places (Declares v) = v.span ∷ []
mention_places (Refers r) = reference_places r
mention_places (Jumps word inside) = word ∷ []

-- where the name of a function stands, and then what it says
abbrev pub function_places : Function → List Span
function_places f = f.name.span ∷ flat_map mention_places (said f)

-- where the name of a unit stands, or the whole pragma that says who may call this one
abbrev pub use_places : Use → List Span
use_places (Url u url) = u.span ∷ []
use_places (Access domain path span) = span ∷ []
use_places (Agent name content scheme) = []
use_places Note = []

-- the same of a program, part after part
abbrev pub places : Program → List Span
places p = flat_map use_places p.uses ++ flat_map function_places p.functions

-- the place that a fault is named with; want of memory has none
abbrev pub fault_place : ScopeFault → Option Span
fault_place (fault.NoVariable span) = Some span
fault_place (fault.TwoVariables span) = Some span
fault_place (fault.NoFunction span) = Some span
fault_place (fault.TwoFunctions span) = Some span
fault_place (fault.Arguments span) = Some span
fault_place (fault.NoUnit span) = Some span
fault_place (fault.TwoUnits span) = Some span
fault_place (fault.NoLibrary span) = Some span
fault_place (fault.LoneBreak span) = Some span
fault_place (fault.TwoAccess span) = Some span
fault_place (fault.TooManyLocals span) = Some span
fault_place (fault.TooManyFunctions span) = Some span
fault_place fault.NoMemory = None

-- the places of faults
abbrev pub fault_places : List ScopeFault → List Span
fault_places = filter_map fault_place

-- ---- in which order they stand

-- the first begins at a place or after it, and each other where the one before it does or after
abbrev pub AscendFrom : ℕ → List Span → Type 0
AscendFrom at [] = Unit {0}
AscendFrom at (first ∷ others) = (at ≤ first.from) × AscendFrom first.from others

-- one place begins before another
abbrev pub IsLeftOf : Span → Span → Type 0
IsLeftOf one other = one.from < other.from

-- the number of a fault's kind in the list that `ScopeFault` is
abbrev pub rank : ScopeFault → ℕ
rank (fault.NoVariable span) = 0
rank (fault.TwoVariables span) = 1
rank (fault.NoFunction span) = 2
rank (fault.TwoFunctions span) = 3
rank (fault.Arguments span) = 4
rank (fault.NoUnit span) = 5
rank (fault.TwoUnits span) = 6
rank (fault.NoLibrary span) = 7
rank (fault.LoneBreak span) = 8
rank (fault.TwoAccess span) = 9
rank (fault.TooManyLocals span) = 10
rank (fault.TooManyFunctions span) = 11
rank fault.NoMemory = 12

-- one fault comes before another: its place does, or it is the same and its kind is listed before
pub record ComesBefore (one other : ScopeFault) : Type 0 where
  pub place : Span
  pub later : Span
  pub here : fault_place one ≡ Some place
  pub there : fault_place other ≡ Some later
  pub order : IsLeftOf place later ⊎ ((place ≡ later) × (rank one < rank other))
