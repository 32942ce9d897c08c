-- The list of a program's faults has each of them, and no others.
use Rattle.std.proofs.Common.{◌≡◌, ◌≢◌, ℕ, ◌≤◌, ◌⊎◌, inl, inr, Bool, true, false, not, nat_le}
use Rattle.std.proofs.Common.{List, [], ◌∷◌, ◌++◌, length, Option, Some, None, Contains}
use Rattle.std.proofs.Common.{refl, sym, ap, subst, ◌∙◌, append_assoc, arith}
use Rattle.std.specs.Option.{is_some, option_map}
use Rattle.std.proofs.lemmas.Bool.{not-true}
use Rattle.std.proofs.lemmas.Bool.Decides.{nat_tests}
use Rattle.std.proofs.lemmas.List.{append-nil}
use Rattle.std.proofs.lemmas.List.Elements.{Contains-append_left, Contains-append_right}
use Rattle.std.proofs.lemmas.List.Elements.{Contains-append_cases, Contains-push}
use Rattle.std.proofs.lemmas.List.Elements.{Contains-push_cases}
use Rattle.wap_grammar.specs.declared.program.program.Use.{Use}
use Rattle.wap_grammar.specs.declared.program.program.Use.TheVariants.{Url, Access}
use Rattle.wap_grammar.specs.declared.program.program.Function.{Function}
use Rattle.wap_grammar.specs.declared.program.program.Program.{Program}
use Rattle.wap_scope.specs.declared.limits.TheConstants.{VARIABLE_LIMIT, FUNCTION_LIMIT}
use Rattle.wap_scope.specs.declared.fault.ScopeFault.{ScopeFault}
use Rattle.wap_scope.specs.declared.fault.ScopeFault.TheVariants as fault
use Rattle.wap_scope.specs.Names.{Variable, Local, External, Library, Mention, Declares, Refers}
use Rattle.wap_scope.specs.Names.{Jumps, said, function_named, accesses}
use Rattle.wap_scope.specs.Scoped.{Says, HasFunction, HasUse, IsFault, IsScoped}
use Rattle.wap_scope.specs.Scoped as wrong
use Rattle.wap_scope.specs.Faults.{fault_if, scope_of, mention_rule}
use Rattle.wap_scope.specs.Faults.{function_rule, use_rule, one_by_one, faults, first_fault}

-- ---- lists

nowhere : (f : ScopeFault) → Contains [] f → ⊥
nowhere f (k, within, is) = omega (arith, within)

found_if : (b : Bool) (f : ScopeFault) → b ≡ true → Contains (fault_if b f) f
found_if true f is = Contains-push [] f
found_if false f is = absurd (cc is)

only_if : (b : Bool) (g f : ScopeFault) → Contains (fault_if b g) f → (b ≡ true) × (g ≡ f)
only_if true g f there = (refl, the_one (Contains-push_cases [] g f there))
  where
    the_one : Contains [] f ⊎ (g ≡ f) → g ≡ f
    the_one (inl none) = absurd (nowhere f none)
    the_one (inr is) = is
only_if false g f there = absurd (nowhere f there)

module _ {X : Type 0} (rule : List X → X → List ScopeFault) (f : ScopeFault) where
  -- the fault of an item is among those of all
  at_item : (pre before : List X) (here : X) (after : List X) →
      Contains (rule (pre ++ before) here) f →
      Contains (one_by_one rule pre (before ++ here ∷ after)) f
  at_item pre [] here after there =
      Contains-append_left (rule pre here) (one_by_one rule (pre ++ here ∷ []) after) f
      (subst (λ some. Contains (rule some here) f) (append-nil pre) there)
  at_item pre (x ∷ before) here after there =
      Contains-append_right (rule pre x)
      (one_by_one rule (pre ++ x ∷ []) (before ++ here ∷ after)) f
      (at_item (pre ++ x ∷ []) before here after
      (subst (λ some. Contains (rule some here) f) (sym (append_assoc pre (x ∷ []) before)) there))

  -- an item that has the fault
  record Stands (pre items : List X) : Type 0 where
    before : List X
    here : X
    after : List X
    whole : items ≡ before ++ here ∷ after
    there : Contains (rule (pre ++ before) here) f

  -- each fault of items is one of them
  item_of : (pre items : List X) → Contains (one_by_one rule pre items) f → Stands pre items
  item_of pre [] there = absurd (nowhere f there)
  item_of pre (x ∷ xs) there =
      by (Contains-append_cases (rule pre x) (one_by_one rule (pre ++ x ∷ []) xs) f there)
      (item_of (pre ++ x ∷ []) xs)
    where
      by : Contains (rule pre x) f ⊎ Contains (one_by_one rule (pre ++ x ∷ []) xs) f →
          (Contains (one_by_one rule (pre ++ x ∷ []) xs) f → Stands (pre ++ x ∷ []) xs) →
          Stands pre (x ∷ xs)
      by (inl first) further = record {
        before = [];
        here = x;
        after = xs;
        whole = refl;
        there = subst (λ some. Contains (rule some x) f) (sym (append-nil pre)) first;
      }
      by (inr later) further = let one = further later in record {
        before = x ∷ one.before;
        here = one.here;
        after = one.after;
        whole = ap (λ xs. x ∷ xs) one.whole;
        there = subst (λ some. Contains (rule some one.here) f)
            (append_assoc pre (x ∷ []) one.before) one.there;
      }

-- ---- tests

some_mapped : {X Y : Type 0} (f : X → Y) (o : Option X) → is_some (option_map f o) ≡ is_some o
some_mapped f None = refl
some_mapped f (Some x) = refl

so_many : (limit count : ℕ) → limit ≤ count → nat_le limit count ≡ true
so_many limit count is = grind (arith, nat_tests)

at_most : (limit count : ℕ) → nat_le limit count ≡ true → limit ≤ count
at_most limit count is = grind (arith, nat_tests)

any : {X : Type 0} (xs : List X) → xs ≢ [] → nat_le 1 (length xs) ≡ true
any [] is = absurd (is refl)
any (x ∷ xs) is = grind (arith, nat_tests)

not_none : {X : Type 0} (xs : List X) → nat_le 1 (length xs) ≡ true → xs ≢ []
not_none [] is = absurd (grind (arith, nat_tests))
not_none (x ∷ xs) is = λ e. cc

module _ (p : Program) where
  abbrev at_function : List Function → Function → List ScopeFault
  at_function = function_rule (scope_of p)

  abbrev at_mention : List Mention → Mention → List ScopeFault
  at_mention = mention_rule (scope_of p)

  -- what the rule of a function begins with, goes on with and ends with
  abbrev again : List Function → Function → List ScopeFault
  again before f =
      fault_if (is_some (function_named f.name.name before)) (fault.TwoFunctions f.name.span)

  abbrev full : List Function → Function → List ScopeFault
  full before f =
      fault_if (nat_le FUNCTION_LIMIT (length before)) (fault.TooManyFunctions f.name.span)

  abbrev inner : Function → List ScopeFault
  inner f = one_by_one at_mention [] (said f)

  -- ---- each fault is listed

  in_use : {before : List Use} {here : Use} {f : ScopeFault} → HasUse p before here →
      Contains (use_rule before here) f → Contains (faults p) f
  in_use {before = before} {here = here} {f = f} has there =
      Contains-append_left _ (one_by_one at_function [] p.functions) f
      (subst (λ items. Contains (one_by_one use_rule [] items) f) (sym has.whole)
      (at_item use_rule f [] before here has.after there))

  in_function : {before : List Function} {here : Function} {f : ScopeFault} →
      HasFunction p before here → Contains (at_function before here) f → Contains (faults p) f
  in_function {before = before} {here = here} {f = f} has there =
      Contains-append_right (one_by_one use_rule [] p.uses) _ f
      (subst (λ items. Contains (one_by_one at_function [] items) f) (sym has.whole)
      (at_item at_function f [] before here has.after there))

  in_mention : {before : List Mention} {here : Mention} {f : ScopeFault} → Says p before here →
      Contains (at_mention before here) f → Contains (faults p) f
  in_mention {before = before} {here = here} {f = f} says there =
      let g = says.function in
      in_function (record { after = says.later; whole = says.functions })
      (Contains-append_right (again says.earlier g) _ f
      (Contains-append_right (full says.earlier g) _ f
      (subst (λ items. Contains (one_by_one at_mention [] items) f) (sym says.whole)
      (at_item at_mention f [] before here says.after there))))

  -- the first and the second of two tests
  first : (a b : Bool) (f g : ScopeFault) → a ≡ true → Contains (fault_if a f ++ fault_if b g) f
  first a b f g is = Contains-append_left (fault_if a f) (fault_if b g) f (found_if a f is)

  second : (a b : Bool) (f g : ScopeFault) → b ≡ true → Contains (fault_if a f ++ fault_if b g) g
  second a b f g is = Contains-append_right (fault_if a f) (fault_if b g) g (found_if b g is)

  pub listed : (f : ScopeFault) → IsFault p f → Contains (faults p) f
  listed f' (wrong.no_variable before v says so) = in_mention says (found_if _ _ (ap not so))
  listed f' (wrong.two_variables before v says so) = in_mention says (first _ _ _ _ so)
  listed f' (wrong.no_function before f count says so) =
      in_mention says (first _ _ _ _ (ap not (some_mapped _ (function_named f.name p.functions)
      ∙ so)))
  listed f' (wrong.two_functions before f has so) =
      in_function has (Contains-append_left (again before f) _ _ (found_if _ _ so))
  listed f' (wrong.arguments before (Variable v) says so) = absurd (cc so)
  listed f' (wrong.arguments before (Local f count) says so) =
      in_mention says (second _ _ _ _ (ap not so))
  listed f' (wrong.arguments before (External unit f count) says so) =
      in_mention says (second _ _ _ _ (ap not so))
  listed f' (wrong.arguments before (Library l f count) says so) =
      in_mention says (second _ _ _ _ (ap not so))
  listed f' (wrong.no_unit before unit f count says so) =
      in_mention says (first _ _ _ _ (ap not so))
  listed f' (wrong.two_units before u url has so) = in_use has (found_if _ _ so)
  listed f' (wrong.no_library before l f count says so) =
      in_mention says (first _ _ _ _ (ap not so))
  listed f' (wrong.lone_break before word says) = in_mention says (found_if true _ refl)
  listed f' (wrong.two_access before domain path span has so) =
      in_use has (found_if _ _ (any (accesses before) so))
  listed f' (wrong.too_many_locals before v says so) =
      in_mention says (second _ _ _ _ (so_many VARIABLE_LIMIT _ so))
  listed f' (wrong.too_many_functions before f has so) =
      in_function has (Contains-append_right (again before f) _ _
      (Contains-append_left (full before f) _ _ (found_if _ _ (so_many FUNCTION_LIMIT _ so))))

  -- ---- each that is listed is one

  one : (b : Bool) (g f : ScopeFault) → (b ≡ true → IsFault p g) → Contains (fault_if b g) f →
      IsFault p f
  one b g f make there =
      let only = only_if b g f there in
      subst (λ (f : ScopeFault). IsFault p f) only.1 (make only.0)

  either : (xs ys : List ScopeFault) (f : ScopeFault) → (Contains xs f → IsFault p f) →
      (Contains ys f → IsFault p f) → Contains (xs ++ ys) f → IsFault p f
  either xs ys f left right there = by (Contains-append_cases xs ys f there)
    where
      by : Contains xs f ⊎ Contains ys f → IsFault p f
      by (inl there) = left there
      by (inr there) = right there

  both : (a b : Bool) (g h f : ScopeFault) → (a ≡ true → IsFault p g) → (b ≡ true → IsFault p h) →
      Contains (fault_if a g ++ fault_if b h) f → IsFault p f
  both a b g h f make other = either _ _ f (one a g f make) (one b h f other)

  of_mention : (before : List Mention) (here : Mention) (f : ScopeFault) → Says p before here →
      Contains (at_mention before here) f → IsFault p f
  of_mention before (Refers (Variable v)) f says =
      one _ _ f (λ so. wrong.no_variable before v says (not-true _ so))
  of_mention before (Refers (Local g count)) f says =
      both _ _ _ _ f
      (λ so. wrong.no_function before g count says
      (sym (some_mapped _ (function_named g.name p.functions)) ∙ not-true _ so))
      (λ so. wrong.arguments before (Local g count) says (not-true _ so))
  of_mention before (Refers (External unit g count)) f says =
      both _ _ _ _ f (λ so. wrong.no_unit before unit g count says (not-true _ so))
      (λ so. wrong.arguments before (External unit g count) says (not-true _ so))
  of_mention before (Refers (Library l g count)) f says =
      both _ _ _ _ f (λ so. wrong.no_library before l g count says (not-true _ so))
      (λ so. wrong.arguments before (Library l g count) says (not-true _ so))
  of_mention before (Declares v) f says =
      both _ _ _ _ f (wrong.two_variables before v says)
      (λ so. wrong.too_many_locals before v says (at_most VARIABLE_LIMIT _ so))
  of_mention before (Jumps word true) f says = λ there. absurd (nowhere f there)
  of_mention before (Jumps word false) f says =
      one true _ f (λ so. wrong.lone_break before word says)

  of_function : (before : List Function) (g : Function) (f : ScopeFault) →
      HasFunction p before g → Contains (at_function before g) f → IsFault p f
  of_function before g f has =
      either (again before g) (full before g ++ inner g) f
      (one _ _ f (wrong.two_functions before g has))
      (either (full before g) (inner g) f
      (one _ _ f (λ so. wrong.too_many_functions before g has (at_most FUNCTION_LIMIT _ so)))
      (λ there. let item = item_of at_mention f [] (said g) there in
      of_mention item.before item.here f (record {
        earlier = before;
        function = g;
        later = has.after;
        functions = has.whole;
        after = item.after;
        whole = item.whole;
      }) item.there))

  of_use : (before : List Use) (here : Use) (f : ScopeFault) → HasUse p before here →
      Contains (use_rule before here) f → IsFault p f
  of_use before (Url u url) f has = one _ _ f (wrong.two_units before u url has)
  of_use before (Access domain path span) f has =
      one _ _ f (λ so. wrong.two_access before domain path span has (not_none _ so))
  of_use before _ f has = λ there. absurd (nowhere f there)

  pub is_fault : (f : ScopeFault) → Contains (faults p) f → IsFault p f
  is_fault f =
      either (one_by_one use_rule [] p.uses) (one_by_one at_function [] p.functions) f
      (λ there. let item = item_of use_rule f [] p.uses there in
      of_use item.before item.here f (record { after = item.after; whole = item.whole })
      item.there)
      (λ there. let item = item_of at_function f [] p.functions there in
      of_function item.before item.here f (record { after = item.after; whole = item.whole })
      item.there)

  -- ---- without faults

  none : (xs : List ScopeFault) → ((f : ScopeFault) → Contains xs f → ⊥) → xs ≡ []
  none [] never = refl
  none (f ∷ fs) never =
      absurd (never f (Contains-append_left (f ∷ []) fs f (Contains-push [] f)))

  pub faultless_where_scoped : IsScoped p → faults p ≡ []
  faultless_where_scoped scoped = none (faults p) (λ f there. scoped f (is_fault f there))

  pub scoped_without_faults : faults p ≡ [] → IsScoped p
  scoped_without_faults none why so =
      nowhere why (subst (λ (fs : List ScopeFault). Contains fs why) none (listed why so))

  at_first : (fs : List ScopeFault) (f : ScopeFault) → first_fault fs ≡ Some f → Contains fs f
  at_first [] f is = absurd (cc is)
  at_first (g ∷ gs) f is =
      Contains-append_left (g ∷ []) gs f
      (subst (λ (h : ScopeFault). Contains (g ∷ []) h) (cc is) (Contains-push [] g))

  pub first_is_fault : (f : ScopeFault) → first_fault (faults p) ≡ Some f → IsFault p f
  first_is_fault f is = is_fault f (at_first (faults p) f is)
