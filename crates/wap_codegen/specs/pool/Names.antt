-- The names of programs as they are collected, each where it stands first. This project's own.
use Rattle.std.specs.Prelude.{◌≡◌, ℕ, if◌then◌else◌, List, [], ◌∷◌, ◌++◌}
use Rattle.std.specs.List.{filter_map}
use Rattle.wap_grammar.specs.declared.program.program.Program.{Program}
use Rattle.wap_scope.specs.Scoped.{is_among}
use Rattle.wap_scope.specs.Meanings.{function_names}
use Rattle.wap_meaning.specs.Names.{Names, url_in}

-- names with one more at the end, if it isn't there yet
abbrev pub with_name : List (List ℕ) → List ℕ → List (List ℕ)
with_name names name = if is_among name names then names else names ++ name ∷ []

-- names with others, one after the other
abbrev pub with_names : List (List ℕ) → List (List ℕ) → List (List ℕ)
with_names names [] = names
with_names names (name ∷ more) = with_names (with_name names name) more

-- no name stands before itself
abbrev pub AreOnce : List (List ℕ) → Type 0
AreOnce names = with_names [] names ≡ names

-- what the names of a program mean outside of its functions
abbrev pub names_of : Program → Names
names_of p = record {
  variables = [];
  functions = function_names p;
  urls = filter_map url_in p.uses;
}
