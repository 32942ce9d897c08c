-- In a program whose names are in order, what its functions say can be coded.
use Rattle.std.proofs.Common.{◌≡◌, ℕ, ◌≤◌, true, false, nat_eq, nat_le, List, [], ◌∷◌, ◌++◌, map}
use Rattle.std.proofs.Common.{length, Option, Some, None, refl, sym, ap, subst, ◌∙◌, arith}
use Rattle.std.specs.List.{flat_map, All}
use Rattle.std.specs.Option.{option_map, IsSome}
use Rattle.std.proofs.lemmas.Bool.Decides.{nat_tests}
use Rattle.std.proofs.lemmas.List.Elements.{filter_map-append}
use Rattle.wap_grammar.specs.declared.program.program.Id.{Id}
use Rattle.wap_grammar.specs.declared.program.program.Function.{Function}
use Rattle.wap_grammar.specs.declared.program.program.Program.{Program}
use Rattle.wap_grammar.specs.declared.program.statement.Stmt.{Stmt}
use Rattle.wap_unit.specs.Libraries.{lib_named}
use Rattle.wap_scope.specs.declared.limits.TheConstants.{ARGUMENT_LIMIT}
use Rattle.wap_scope.specs.Names.{Reference, Variable, Local, External, Library}
use Rattle.wap_scope.specs.Names.{Mention, Declares, Refers, Jumps, said, declared, mentions}
use Rattle.wap_scope.specs.Names.{names_declared, function_named, units}
use Rattle.wap_scope.specs.Scoped.{is_taken, Says}
use Rattle.wap_scope.proofs.InOrder.{InOrder}
use Rattle.wap_scope.specs.accepted.Known.{variables, IsAmong, IsKnown, CanBeCoded, AllCanBeCoded}
use Rattle.wap_scope.proofs.AcceptedLemmas.Places.{all_by_places, first_within, among_first}
use Rattle.wap_scope.proofs.AcceptedLemmas.Places.{among_itself, function_there}

-- what takes a number of arguments and is there takes that number
taken : {X : Type 0} (count : ℕ) (size : X → ℕ) (found : Option X) → IsSome found →
    is_taken count (option_map size found) ≡ true → option_map size found ≡ Some count
taken count size (Some x) some is =
    ap Some (same (size x) count is) where
      same : (a b : ℕ) → nat_eq a b ≡ true → a ≡ b
      same a b is = grind (arith, nat_tests)
taken count size None some is = absurd (cc some)

at_most : (a b : ℕ) → nat_le a b ≡ true → a ≤ b
at_most a b is = grind (arith, nat_tests)

module _ (p : Program) (scoped : InOrder p) where
  known : (before : List Mention) (r : Reference) (says : Says p before (Refers r)) →
      IsKnown p says.function r
  known before (Variable v) says =
      let after = names_declared (Refers (Variable v) ∷ says.after) in
      subst (λ (names : List (List ℕ)). IsAmong v.name names)
      (sym (ap names_declared says.whole
      ∙ filter_map-append declared before (Refers (Variable v) ∷ says.after)))
      (among_first v.name (names_declared before) after (scoped.no_variable before v says))
  known before (Local f count) says =
      ap (option_map (λ (h : Function). length h.params)) (function_there f.name p.functions)
      ∙ taken count (λ (h : Function). length h.params) (function_named f.name p.functions)
      (scoped.no_function before f count says) (scoped.arguments before (Local f count) says)
  known before (External unit f count) says = (
    first_within _ (units p.uses) (scoped.no_unit before unit f count says),
    at_most count ARGUMENT_LIMIT (scoped.arguments before (External unit f count) says),
  )
  known before (Library library f count) says =
      taken count (λ (row : ℕ × ℕ × ℕ). row.2) (lib_named library.name f.name)
      (scoped.no_library before library f count says)
      (scoped.arguments before (Library library f count) says)

  can_be : (before : List Mention) (here : Mention) (says : Says p before here) →
      CanBeCoded p says.function here
  can_be before (Declares v) says =
      subst (λ (names : List (List ℕ)). IsAmong v.name names)
      (sym (ap names_declared says.whole
      ∙ filter_map-append declared before (Declares v ∷ says.after)))
      (among_itself v.name (names_declared before) (names_declared says.after))
  can_be before (Refers r) says = known before r says
  can_be before (Jumps word inside) says = scoped.lone_break before word inside says

  pub all_can_be : AllCanBeCoded p
  all_can_be =
      all_by_places (λ (f : Function). All (CanBeCoded p f) (said f)) p.functions
      (λ earlier f later functions. all_by_places (CanBeCoded p f) (said f)
      (λ before here after whole. can_be before here (record {
        earlier = earlier;
        function = f;
        later = later;
        functions = functions;
        after = after;
        whole = whole;
      })))

-- the names of parameters
named : (params : List Id) → names_declared (map Declares params) ≡ map (λ (v : Id). v.name) params
named [] = refl
named (v ∷ params) = ap (λ (names : List (List ℕ)). v.name ∷ names) (named params)

pub parameters_first : (f : Function) → variables f ≡ map (λ (v : Id). v.name) f.params
    ++ names_declared (flat_map (λ s. mentions s false) f.body)
parameters_first f =
    let after = flat_map (λ (s : Stmt). mentions s false) f.body in
    filter_map-append declared (map Declares f.params) after
    ∙ ap (λ (names : List (List ℕ)). names ++ names_declared after) (named f.params)
