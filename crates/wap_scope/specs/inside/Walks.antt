-- What a walk over a program finds, from part to part, and what it knows after each.
use Rattle.std.specs.Prelude.{ℕ, Bool, true, nat_le, List, [], ◌∷◌, ◌++◌}
use Rattle.std.specs.Prelude.{length, Option, Some, None, Result, Ok, Err}
use Rattle.wap_base.specs.Outcome.{◌>>=◌}
use Rattle.wap_grammar.specs.declared.program.program.Id.{Id}
use Rattle.wap_grammar.specs.declared.program.program.Use.{Use}
use Rattle.wap_grammar.specs.declared.program.program.Use.TheVariants.{Url, Access, Agent, Note}
use Rattle.wap_grammar.specs.declared.program.program.Function.{Function}
use Rattle.wap_scope.specs.declared.limits.TheConstants.{FUNCTION_LIMIT}
use Rattle.wap_scope.specs.declared.fault.ScopeFault.{ScopeFault}
use Rattle.wap_scope.specs.declared.fault.ScopeFault.TheVariants as fault
use Rattle.wap_scope.specs.Names.{Mention, Declares, declared, said}
use Rattle.wap_scope.specs.Scoped.{is_among}
use Rattle.wap_scope.specs.Faults.{Scope, fault_if, mention_faults}

-- the first of these faults, or else what comes next
abbrev pub unless : {X : Type 0} → List ScopeFault → Result X ScopeFault → Result X ScopeFault
unless [] next = next
unless (first ∷ others) next = Err first

-- items one after the other, each from what is known after the one before it
abbrev pub each : {S X : Type 0} → (S → X → Result S ScopeFault) → S → List X → Result S ScopeFault
each step known [] = Ok known
each step known (here ∷ after) = step known here >>= λ known. each step known after

-- ---- in a function, whose variables are known

-- the variables that are known, and one more where one is declared
abbrev pub more : List (List ℕ) → Option (List ℕ) → List (List ℕ)
more known None = known
more known (Some name) = known ++ name ∷ []

-- the first fault of a mention, or else the variables that are known after it
abbrev pub mention_at : Scope → List (List ℕ) → Mention → Result (List (List ℕ)) ScopeFault
mention_at scope known here =
    unless (mention_faults scope known here) (Ok (more known (declared here)))

-- the same of mentions, one after the other
abbrev pub walked : Scope → List (List ℕ) → List Mention → Result (List (List ℕ)) ScopeFault
walked scope = each (mention_at scope)

-- the same of items, by what each of them says
abbrev pub walked_each : {X : Type 0} → Scope → (X → List Mention) → List (List ℕ) → List X →
    Result (List (List ℕ)) ScopeFault
walked_each scope of = each (λ known item. walked scope known (of item))

-- the same of a parameter
abbrev pub parameter_at : Scope → List (List ℕ) → Id → Result (List (List ℕ)) ScopeFault
parameter_at scope known v = mention_at scope known (Declares v)

-- ---- functions, where the names of the earlier ones are known

-- the first fault of a function, or else the names that are known after it
abbrev pub function_at : Scope → List (List ℕ) → Function → Result (List (List ℕ)) ScopeFault
function_at scope earlier f =
    unless (fault_if (is_among f.name.name earlier) (fault.TwoFunctions f.name.span))
    (unless (fault_if (nat_le FUNCTION_LIMIT (length earlier))
    (fault.TooManyFunctions f.name.span))
    (walked scope [] (said f) >>= λ known. Ok (earlier ++ f.name.name ∷ [])))

-- ---- pragmas, where the units are known, and whether it is said who may call this one

-- the first fault of a pragma, or else what is known after it
abbrev pub use_at : List (List ℕ) × Bool → Use → Result (List (List ℕ) × Bool) ScopeFault
use_at (units, limited) (Url u url) =
    unless (fault_if (is_among u.name units) (fault.TwoUnits u.span))
    (Ok (units ++ u.name ∷ [], limited))
use_at (units, limited) (Access domain path span) =
    unless (fault_if limited (fault.TwoAccess span)) (Ok (units, true))
use_at (units, limited) (Agent name content scheme) = Ok (units, limited)
use_at (units, limited) Note = Ok (units, limited)
