-- What a program's functions may name, as it is looked up.
use Rattle.std.specs.Prelude.{◌≡◌, ℕ, if◌then◌else◌, List, [], ◌∷◌, ◌++◌}
use Rattle.std.specs.Option.{is_some}
use Rattle.std.specs.Map.{lookup}
use Rattle.wap_base.specs.Texts.{is_same_text}
use Rattle.wap_grammar.specs.declared.program.program.Function.{Function}
use Rattle.wap_scope.specs.declared.globals.Globals.{Globals}
use Rattle.wap_scope.specs.Scoped.{arity_of}
use Rattle.wap_scope.specs.Faults.{Scope}

-- numbers of parameters, by the names of functions
abbrev pub ByName : Type 0
ByName = List (List ℕ × ℕ)

-- each name has that of the first function of it
abbrev pub Counts : List Function → ByName → Type 0
Counts functions counts = (name : List ℕ) →
    lookup (is_same_text name) counts ≡ arity_of functions name

-- with that of one function more, if none of its name is there
abbrev pub with_count : ByName → List ℕ → ℕ → ByName
with_count counts name count =
    if is_some (lookup (is_same_text name) counts) then counts else counts ++ (name, count) ∷ []

abbrev pub scope_by : Globals → Scope
scope_by globals = record {
  units = globals.units;
  arity = λ name. lookup (is_same_text name) globals.arities;
}
