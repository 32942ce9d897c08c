-- Walks over programs find the faults that are listed.
use Rattle.std.proofs.Common.{◌≡◌, ℕ, Bool, true, false, ◌||◌, cond, nat_le, List, []}
use Rattle.std.proofs.Common.{◌∷◌, ◌++◌, length, map, Option, Some, Result, Ok, Err, refl}
use Rattle.std.proofs.Common.{sym, ap, subst, ◌∙◌, append_assoc, arith}
use Rattle.std.specs.List.{flat_map}
use Rattle.std.specs.Option.{is_some}
use Rattle.std.proofs.lemmas.Bool.Decides.{nat_tests}
use Rattle.std.proofs.lemmas.List.{append-nil, map-append, length-map}
use Rattle.std.proofs.lemmas.List.Elements.{filter_map-append}
use Rattle.wap_base.specs.Outcome.{◌>>=◌, Meets}
use Rattle.wap_base.specs.Texts.{is_same_text}
use Rattle.wap_grammar.specs.declared.program.program.Span.{Span}
use Rattle.wap_grammar.specs.declared.program.program.Id.{Id}
use Rattle.wap_grammar.specs.declared.program.program.Use.{Use}
use Rattle.wap_grammar.specs.declared.program.program.Use.TheVariants.{Url, Access, Agent, Note}
use Rattle.wap_grammar.specs.declared.program.program.Function.{Function}
use Rattle.wap_grammar.specs.declared.program.program.Program.{Program}
use Rattle.wap_grammar.specs.declared.program.statement.Stmt.{Stmt}
use Rattle.wap_scope.specs.declared.limits.TheConstants.{FUNCTION_LIMIT}
use Rattle.wap_scope.specs.declared.fault.ScopeFault.{ScopeFault}
use Rattle.wap_scope.specs.declared.fault.ScopeFault.TheVariants as fault
use Rattle.wap_scope.specs.Names.{Mention, Declares, declared, names_declared, said}
use Rattle.wap_scope.specs.Names.{mentions, function_named, unit_of, units, access_of, accesses}
use Rattle.wap_scope.specs.Scoped.{is_among}
use Rattle.wap_scope.specs.Faults.{fault_if, Scope, scope_of, mention_rule, function_rule}
use Rattle.wap_scope.specs.Faults.{use_rule, one_by_one, faults, first_fault}
use Rattle.wap_scope.specs.inside.Walks.{unless, each, more, mention_at, walked, walked_each}
use Rattle.wap_scope.specs.inside.Walks.{parameter_at, function_at, use_at}
use Rattle.wap_scope.specs.declared.globals.Globals.{Globals}
use Rattle.wap_scope.specs.declared.fault.ScopeFault.TheVariants.{NoMemory}
use Rattle.wap_scope.specs.inside.Globals.{Counts, scope_by}
use Rattle.wap_scope.proofs.Walking.{bind_same, walked-append, walked-flat}
use Rattle.wap_scope.proofs.Scopes.{same_scope}

-- ---- the first fault

pub unless-append : {X : Type 0} (xs ys : List ScopeFault) (next : Result X ScopeFault) →
    unless (xs ++ ys) next ≡ unless xs (unless ys next)
unless-append [] ys next = refl
unless-append (x ∷ xs) ys next = refl

pub unless-bind : {X Y : Type 0} (xs : List ScopeFault) (next : Result X ScopeFault)
    (then : X → Result Y ScopeFault) → (unless xs next >>= then) ≡ unless xs (next >>= then)
unless-bind [] next then = refl
unless-bind (x ∷ xs) next then = refl

pub no_fault : {X : Type 0} (xs : List ScopeFault) (x y : X) → unless xs (Ok x) ≡ Ok y →
    (xs ≡ []) × (x ≡ y)
no_fault [] x y is = (refl, cc is)
no_fault (first ∷ others) x y is = absurd (cc is)

pub the_first : {X : Type 0} (xs : List ScopeFault) (x : X) (refused : ScopeFault) →
    unless xs (Ok x) ≡ Err refused → first_fault xs ≡ Some refused
the_first [] x refused is = absurd (cc is)
the_first (first ∷ others) x refused is = cc is

-- ---- one by one

module _ {S X : Type 0} (step : S → X → Result S ScopeFault) (rule : List X → X → List ScopeFault)
    (state : List X → S)
    (one : (before : List X) (here : X) →
    step (state before) here ≡ unless (rule before here) (Ok (state (before ++ here ∷ [])))) where
  pub as_listed : (before items : List X) → each step (state before) items
      ≡ unless (one_by_one rule before items) (Ok (state (before ++ items)))
  as_listed before [] = ap (λ (items : List X). Ok (state items)) (sym (append-nil before))
  as_listed before (here ∷ after) =
      let with_here = before ++ here ∷ [] in
      let next : S → Result S ScopeFault = λ known. each step known after in
      ap (λ (r : Result S ScopeFault). r >>= next) (one before here)
      ∙ unless-bind (rule before here) (Ok (state with_here)) next
      ∙ ap (unless (rule before here)) (as_listed with_here after
      ∙ ap (λ (items : List X). unless (one_by_one rule with_here after) (Ok (state items)))
      (append_assoc before (here ∷ []) after))
      ∙ sym (unless-append (rule before here) (one_by_one rule with_here after)
      (Ok (state (before ++ here ∷ after))))

  pub as_listed_alone : {Y : Type 0} (items : List X) (y : Y) →
      unless (one_by_one rule [] items) (Ok y) ≡ (each step (state []) items >>= (λ _. Ok y))
  as_listed_alone {Y} items y =
      let last : S → Result Y ScopeFault = λ _. Ok y in
      sym (ap (λ (r : Result S ScopeFault). r >>= last) (as_listed [] items)
      ∙ unless-bind (one_by_one rule [] items) (Ok (state items)) last)

-- ---- what a function says

more_names : (known : List (List ℕ)) (here : Mention) →
    known ++ names_declared (here ∷ []) ≡ more known (declared here)
more_names known (Declares v) = refl
more_names known _ = append-nil known

next_names : (before : List Mention) (here : Mention) →
    names_declared (before ++ here ∷ []) ≡ more (names_declared before) (declared here)
next_names before here =
    filter_map-append declared before (here ∷ []) ∙ more_names (names_declared before) here

pub mentions_listed : {Y : Type 0} (scope : Scope) (ms : List Mention) (y : Y) →
    unless (one_by_one (mention_rule scope) [] ms) (Ok y)
    ≡ (walked scope [] ms >>= (λ _. Ok y))
mentions_listed scope ms y =
    as_listed_alone (mention_at scope) (mention_rule scope) names_declared (λ before here.
    ap (λ (names : List (List ℕ)). unless (mention_rule scope before here) (Ok names))
    (sym (next_names before here))) ms y

parameters_walked : (scope : Scope) (known : List (List ℕ)) (params : List Id) →
    walked scope known (map Declares params) ≡ each (parameter_at scope) known params
parameters_walked scope known [] = refl
parameters_walked scope known (v ∷ params) =
    bind_same (parameter_at scope known v)
    (λ (k : List (List ℕ)). walked scope k (map Declares params))
    (λ (k : List (List ℕ)). each (parameter_at scope) k params)
    (λ k. parameters_walked scope k params)

pub said_parts : (scope : Scope) (f : Function) →
    walked scope [] (said f) ≡ (each (parameter_at scope) [] f.params >>=
    (λ known. walked_each scope (λ s. mentions s false) known f.body))
said_parts scope f =
    let body = flat_map (λ (s : Stmt). mentions s false) f.body in
    walked-append scope [] (map Declares f.params) body
    ∙ ap (λ (r : Result (List (List ℕ)) ScopeFault). r >>= (λ known. walked scope known body))
    (parameters_walked scope [] f.params)
    ∙ bind_same (each (parameter_at scope) [] f.params)
    (λ (k : List (List ℕ)). walked scope k body)
    (λ (k : List (List ℕ)). walked_each scope (λ (s : Stmt). mentions s false) k f.body)
    (λ k. walked-flat scope (λ (s : Stmt). mentions s false) k f.body)

-- ---- functions

abbrev names : List Function → List (List ℕ)
names = map (λ f. f.name.name)

among_first : (same : Bool) (f : Function) (found : Option Function) (rest : Bool) →
    rest ≡ is_some found → (same || rest) ≡ is_some (cond same (Some f) found)
among_first true f found rest is = refl
among_first false f found rest is = is

pub named_before : (name : List ℕ) (before : List Function) →
    is_among name (names before) ≡ is_some (function_named name before)
named_before name [] = refl
named_before name (f ∷ before) =
    among_first (is_same_text name f.name.name) f (function_named name before)
    (is_among name (names before)) (named_before name before)

one_function : (scope : Scope) (before : List Function) (f : Function) →
    function_at scope (names before) f
    ≡ unless (function_rule scope before f) (Ok (names (before ++ f ∷ [])))
one_function scope before f =
    let again : Bool → List ScopeFault = λ b. fault_if b (fault.TwoFunctions f.name.span) in
    let full : ℕ → List ScopeFault = λ n.
    fault_if (nat_le FUNCTION_LIMIT n) (fault.TooManyFunctions f.name.span) in
    let inner = one_by_one (mention_rule scope) [] (said f) in
    let all = names before ++ f.name.name ∷ [] in
    let first = is_some (function_named f.name.name before) in
    let last = unless (full (length before)) (unless inner (Ok all)) in
    ap (λ (b : Bool). unless (again b) (unless (full (length (names before)))
    (walked scope [] (said f) >>= (λ known. Ok all)))) (named_before f.name.name before)
    ∙ ap (λ (n : ℕ). unless (again first) (unless (full n)
    (walked scope [] (said f) >>= (λ known. Ok all)))) (length-map before (λ f. f.name.name))
    ∙ ap (λ (r : Result (List (List ℕ)) ScopeFault).
    unless (again first) (unless (full (length before)) r))
    (sym (mentions_listed scope (said f) all))
    ∙ ap (unless (again first)) (sym (unless-append (full (length before)) inner (Ok all)))
    ∙ sym (unless-append (again first) (full (length before) ++ inner) (Ok all))
    ∙ ap (λ (all : List (List ℕ)). unless (function_rule scope before f) (Ok all))
    (sym (map-append (λ (f : Function). f.name.name) before (f ∷ [])))

pub functions_listed : {Y : Type 0} (scope : Scope) (functions : List Function) (y : Y) →
    unless (one_by_one (function_rule scope) [] functions) (Ok y)
    ≡ (each (function_at scope) [] functions >>= (λ _. Ok y))
functions_listed scope functions y =
    as_listed_alone (function_at scope) (function_rule scope) names (one_function scope) functions y

-- ---- pragmas

abbrev is_limited : List Use → Bool
is_limited before = nat_le 1 (length (accesses before))

abbrev state : List Use → List (List ℕ) × Bool
state before = (units before, is_limited before)

at_least_one : (some : List Span) (span : Span) → nat_le 1 (length (some ++ span ∷ [])) ≡ true
at_least_one [] span = refl
at_least_one (x ∷ some) span = grind (arith, nat_tests)

-- the state after a pragma, by the unit that it names and the access that it gives
module _ (before : List Use) (here : Use) where
  abbrev next_known : List (List ℕ) → Bool → List (List ℕ) × Bool
  next_known some limited = (some, limited)

  abbrev next_state : List (List ℕ) → List Span → List (List ℕ) × Bool
  next_state more spans = (units before ++ more, nat_le 1 (length (accesses before ++ spans)))

  state_by : (more : List (List ℕ)) (spans : List Span) → units (here ∷ []) ≡ more →
      accesses (here ∷ []) ≡ spans → state (before ++ here ∷ []) ≡ next_state more spans
  state_by more spans of_units of_accesses =
      ap (λ (some : List (List ℕ)). (some, is_limited (before ++ here ∷ [])))
      (filter_map-append unit_of before (here ∷ [])
      ∙ ap (λ (some : List (List ℕ)). units before ++ some) of_units)
      ∙ ap (λ (some : List Span). (units before ++ more, nat_le 1 (length some)))
      (filter_map-append access_of before (here ∷ [])
      ∙ ap (λ (some : List Span). accesses before ++ some) of_accesses)

  unlimited : (more : List (List ℕ)) →
      next_state more [] ≡ next_known (units before ++ more) (is_limited before)
  unlimited more =
      ap (λ (some : List Span). (units before ++ more, nat_le 1 (length some)))
      (append-nil (accesses before))

  no_unit : (limited : Bool) → next_known (units before ++ []) limited
      ≡ next_known (units before) limited
  no_unit limited = ap (λ (some : List (List ℕ)). (some, limited)) (append-nil (units before))

one_use : (before : List Use) (here : Use) →
    use_at (state before) here ≡ unless (use_rule before here) (Ok (state (before ++ here ∷ [])))
one_use before (Url u url) =
    let here = Url u url in
    ap (λ (s : List (List ℕ) × Bool). unless (use_rule before here) (Ok s))
    (sym (state_by before here (u.name ∷ []) [] refl refl ∙ unlimited before here (u.name ∷ [])))
one_use before (Access domain path span) =
    let here = Access domain path span in
    ap (λ (s : List (List ℕ) × Bool). unless (use_rule before here) (Ok s))
    (sym (state_by before here [] (span ∷ []) refl refl
    ∙ ap (λ (limited : Bool). (units before ++ [], limited)) (at_least_one (accesses before) span)
    ∙ no_unit before here true))
one_use before (Agent name content scheme) =
    let here = Agent name content scheme in
    ap (λ (s : List (List ℕ) × Bool). Ok s)
    (sym (state_by before here [] [] refl refl ∙ unlimited before here []
    ∙ no_unit before here (is_limited before)))
one_use before Note =
    ap (λ (s : List (List ℕ) × Bool). Ok s)
    (sym (state_by before Note [] [] refl refl ∙ unlimited before Note []
    ∙ no_unit before Note (is_limited before)))

pub uses_listed : (uses : List Use) →
    unless (one_by_one use_rule [] uses) (Ok (units uses))
    ≡ (each use_at ([], false) uses >>= (λ known. Ok known.0))
uses_listed uses =
    let names : List (List ℕ) × Bool → Result (List (List ℕ)) ScopeFault = λ known. Ok known.0 in
    sym (ap (λ (r : Result (List (List ℕ) × Bool) ScopeFault). r >>= names)
    (as_listed use_at use_rule state one_use [] uses)
    ∙ unless-bind (one_by_one use_rule [] uses) (Ok (state uses)) names)

-- ---- programs

other_value : {A B X : Type 0} (r : Result X ScopeFault) (some : List ScopeFault) (a : A) (b : B) →
    Meets NoMemory (λ _. a) r (unless some (Ok a)) → Meets NoMemory (λ _. b) r (unless some (Ok b))
other_value (Ok x) [] a b meets = refl
other_value (Ok x) (first ∷ others) a b meets = absurd (cc meets)
other_value (Err refused) [] a b meets = λ other. absurd (cc (meets other))
other_value (Err refused) (first ∷ others) a b meets = λ other. cc (meets other)

-- where the pragmas have no faults, the functions decide
module _ (p : Program) (globals : Globals) (functions : List Function)
    (known : unless (one_by_one use_rule [] p.uses) (Ok (units p.uses)) ≡ Ok globals.units)
    (counts : Counts p.functions globals.arities) (same : functions ≡ p.functions) where
  abbrev of_functions : Scope → List Function → List ScopeFault
  of_functions scope functions = one_by_one (function_rule scope) [] functions

  abbrev of_uses : List ScopeFault
  of_uses = one_by_one use_rule [] p.uses

  no_uses : (of_uses ≡ []) × (units p.uses ≡ globals.units)
  no_uses = no_fault of_uses (units p.uses) globals.units known

  all_faults : faults p ≡ of_functions (scope_by globals) functions
  all_faults =
      ap (λ (first : List ScopeFault). first ++ of_functions (scope_of p) p.functions) no_uses.0
      ∙ ap (λ (scope : Scope). of_functions scope p.functions)
      (sym (same_scope globals p (sym no_uses.1) counts))
      ∙ ap (of_functions (scope_by globals)) (sym same)

  pub program_judged : {X : Type 0} (r : Result X ScopeFault) →
      Meets NoMemory (λ _. functions) r
      (unless (of_functions (scope_by globals) functions) (Ok functions)) →
      Meets NoMemory (λ _. p) r (unless (faults p) (Ok p))
  program_judged {X} r meets =
      subst (λ (some : List ScopeFault). Meets NoMemory (λ (_ : X). p) r (unless some (Ok p)))
      (sym all_faults)
      (other_value r (of_functions (scope_by globals) functions) functions p meets)
