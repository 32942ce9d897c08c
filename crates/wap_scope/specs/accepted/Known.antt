-- What the names of a program come to where code is made for it: places of variables, of functions
-- and of units, and rows of the table of libraries (WAP-193, sections 6.1.8, 6.2, 6.4 and 6.7).
use Rattle.std.specs.Prelude.{◌≡◌, ℕ, ◌<◌, ◌≤◌, true, List, length, slice_get, Some}
use Rattle.std.specs.List.{All, position_or_len}
use Rattle.std.specs.Option.{option_map}
use Rattle.wap_base.specs.Texts.{is_same_text}
use Rattle.wap_grammar.specs.declared.program.program.Function.{Function}
use Rattle.wap_grammar.specs.declared.program.program.Program.{Program}
use Rattle.wap_scope.specs.declared.limits.TheConstants.{ARGUMENT_LIMIT}
use Rattle.wap_scope.specs.Names.{Reference, Variable, Local, External, Library}
use Rattle.wap_scope.specs.Names.{Mention, Declares, Refers, Jumps, said, names_declared, units}
use Rattle.wap_scope.specs.Scoped.{library_arity}
use Rattle.wap_scope.specs.Meanings.{function_names}

-- the first place of a name, and that after the last where it has none
abbrev pub place_of : List ℕ → List (List ℕ) → ℕ
place_of name names = position_or_len (is_same_text name) names

-- the variables of a function, in the order of their declarations
abbrev pub variables : Function → List (List ℕ)
variables f = names_declared (said f)

-- a name is among some
abbrev pub IsAmong : List ℕ → List (List ℕ) → Type 0
IsAmong name names = place_of name names < length names

-- what a function of a program names is there: a variable of the function; a function of the
-- program, or of the table of libraries, that takes so many arguments; a unit with a pragma
abbrev pub IsKnown : Program → Function → Reference → Type 0
IsKnown p f (Variable v) = IsAmong v.name (variables f)
IsKnown p f (Local g count) =
    option_map (λ (h : Function). length h.params)
    (slice_get p.functions (place_of g.name (function_names p))) ≡ Some count
IsKnown p f (External unit g count) = IsAmong unit.name (units p.uses) × (count ≤ ARGUMENT_LIMIT)
IsKnown p f (Library library g count) = library_arity library.name g.name ≡ Some count

-- what a function says can be coded: a variable that it declares is one of its own, what it names
-- is known, and a jump stands in a loop
abbrev pub CanBeCoded : Program → Function → Mention → Type 0
CanBeCoded p f (Declares v) = IsAmong v.name (variables f)
CanBeCoded p f (Refers r) = IsKnown p f r
CanBeCoded p f (Jumps word inside) = inside ≡ true

-- all that the functions of a program say can be
abbrev pub AllCanBeCoded : Program → Type 0
AllCanBeCoded p = All (λ f. All (CanBeCoded p f) (said f)) p.functions
