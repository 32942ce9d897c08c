-- The faults of a program are named with places of its names, in their order.
use Rattle.std.proofs.Common.{◌≡◌, ◌≢◌, ℕ, suc, ◌≤◌, Bool, true, false, List, [], ◌∷◌, ◌++◌}
use Rattle.std.proofs.Common.{Some, All, refl, sym, subst, append_assoc, arith}
use Rattle.std.proofs.lemmas.List.{append-nil}
use Rattle.std.proofs.lemmas.List.Elements.{All-nil, All-cons}
use Rattle.std.specs.List.{flat_map}
use Rattle.wap_grammar.specs.declared.program.program.Span.{Span}
use Rattle.wap_grammar.specs.declared.program.program.Use.{Use}
use Rattle.wap_grammar.specs.declared.program.program.Use.TheVariants.{Url, Access}
use Rattle.wap_grammar.specs.declared.program.program.Function.{Function}
use Rattle.wap_grammar.specs.declared.program.program.Program.{Program}
use Rattle.wap_scope.specs.declared.fault.ScopeFault.{ScopeFault}
use Rattle.wap_scope.specs.declared.fault.ScopeFault.TheVariants as fault
use Rattle.wap_scope.specs.Names.{Variable, Local, External, Library}
use Rattle.wap_scope.specs.Names.{Mention, Declares, Refers, Jumps, said, names_declared}
use Rattle.wap_scope.specs.Faults.{fault_if, Scope, scope_of, mention_faults, one_by_one}
use Rattle.wap_scope.specs.Faults.{mention_rule, function_rule, use_rule, faults}
use Rattle.wap_scope.specs.Places.{mention_places, function_places, use_places, places}
use Rattle.wap_scope.specs.Places.{fault_place, fault_places, rank, AscendFrom}

-- each fault is named with one of the places, and a later one with a later one, or with the same
-- and listed later; the first is listed from a number on, if it is named with the first place
pub data Picks : ℕ → List ScopeFault → List Span → Type 0 where
  none : (k : ℕ) → Picks k [] []
  skip : (k : ℕ) (fs : List ScopeFault) (p : Span) (ps : List Span) → Picks 0 fs ps →
      Picks k fs (p ∷ ps)
  pick : (k : ℕ) (f : ScopeFault) (fs : List ScopeFault) (p : Span) (ps : List Span) →
      fault_place f ≡ Some p → k ≤ rank f → Picks (suc (rank f)) fs (p ∷ ps) →
      Picks k (f ∷ fs) (p ∷ ps)

-- ---- what follows of that

-- later places ascend from an earlier one
from_earlier : (earlier later : ℕ) (ps : List Span) → earlier ≤ later → AscendFrom later ps →
    AscendFrom earlier ps
from_earlier earlier later [] less up = tt
from_earlier earlier later (p ∷ ps) less up = (omega (arith, less, up.0), up.1)

-- places that are picked of those that ascend do too
picked_ascend : (k : ℕ) (fs : List ScopeFault) (ps : List Span) → Picks k fs ps → (at : ℕ) →
    AscendFrom at ps → AscendFrom at (fault_places fs)
picked_ascend k fs ps (none k') at up = tt
picked_ascend k fs ps' (skip k' fs' p ps picks) at up =
    picked_ascend 0 fs ps picks at (from_earlier at p.from ps up.0 up.1)
picked_ascend k fs' ps' (pick k' f fs p ps is low picks) at up =
    rw is (up.0, picked_ascend (suc (rank f)) fs (p ∷ ps) picks p.from (omega arith, up.1))

-- a fault with a place is no want of memory
placed : (f : ScopeFault) (p : Span) → fault_place f ≡ Some p → f ≢ fault.NoMemory
placed fault.NoMemory p is e = absurd cc
placed f p is e = absurd cc

abbrev IsPlaced : ScopeFault → Type 0
IsPlaced f = f ≢ fault.NoMemory

picked_placed : (k : ℕ) (fs : List ScopeFault) (ps : List Span) → Picks k fs ps → All IsPlaced fs
picked_placed k fs ps (none k') = All-nil IsPlaced
picked_placed k fs ps' (skip k' fs' p ps picks) = picked_placed 0 fs ps picks
picked_placed k fs' ps' (pick k' f fs p ps is low picks) =
    All-cons IsPlaced f fs (placed f p is) (picked_placed (suc (rank f)) fs (p ∷ ps) picks)

-- ---- faults of one place, and of two

-- the next faults, of whatever rank, if the first is named with this place
abbrev Next : List ScopeFault → Span → List Span → Type 0
Next fs p ps = (k : ℕ) → Picks k fs (p ∷ ps)

past : (fs : List ScopeFault) (p : Span) (ps : List Span) → Picks 0 fs ps → Next fs p ps
past fs p ps picks k = skip k fs p ps picks

least : (k : ℕ) → 0 ≤ k
least k = omega arith

pick_one : (k : ℕ) (a : Bool) (f : ScopeFault) (fs : List ScopeFault) (p : Span)
    (ps : List Span) → fault_place f ≡ Some p → k ≤ rank f → Next fs p ps →
    Picks k (fault_if a f ++ fs) (p ∷ ps)
pick_one k true f fs p ps is low next = pick k f fs p ps is low (next (suc (rank f)))
pick_one k false f fs p ps is low next = next k

-- two faults of one place, and those after them
pick_both : (a b : Bool) (f g : ScopeFault) (fs : List ScopeFault) (p : Span) (ps : List Span) →
    fault_place f ≡ Some p → fault_place g ≡ Some p → suc (rank f) ≤ rank g → Next fs p ps →
    Picks 0 ((fault_if a f ++ fault_if b g) ++ fs) (p ∷ ps)
pick_both true b f g fs p ps is too less next =
    pick 0 f (fault_if b g ++ fs) p ps is (least (rank f))
    (pick_one (suc (rank f)) b g fs p ps too less next)
pick_both false b f g fs p ps is too less next =
    pick_one 0 b g fs p ps too (least (rank g)) next

-- a fault of each of two places
pick_each : (a b : Bool) (f g : ScopeFault) (fs : List ScopeFault) (p q : Span) (ps : List Span) →
    fault_place f ≡ Some p → fault_place g ≡ Some q → Picks 0 fs ps →
    Picks 0 ((fault_if a f ++ fault_if b g) ++ fs) (p ∷ q ∷ ps)
pick_each a b f g fs p q ps is too picks =
    by_first a (pick_one 0 b g fs q ps too (least (rank g)) (past fs q ps picks)) where
      by_first : (a : Bool) → Picks 0 (fault_if b g ++ fs) (q ∷ ps) →
          Picks 0 ((fault_if a f ++ fault_if b g) ++ fs) (p ∷ q ∷ ps)
      by_first true rest =
          pick 0 f (fault_if b g ++ fs) p (q ∷ ps) is (least (rank f))
          (skip (suc (rank f)) (fault_if b g ++ fs) p (q ∷ ps) rest)
      by_first false rest = skip 0 (fault_if b g ++ fs) p (q ∷ ps) rest

-- two faults of one place, more faults, and those after them
pick_more : (a b : Bool) (f g : ScopeFault) (more fs : List ScopeFault) (p : Span)
    (ps : List Span) → fault_place f ≡ Some p → fault_place g ≡ Some p →
    suc (rank f) ≤ rank g → Next (more ++ fs) p ps →
    Picks 0 ((fault_if a f ++ (fault_if b g ++ more)) ++ fs) (p ∷ ps)
pick_more true true f g more fs p ps is too less next =
    pick 0 f (g ∷ (more ++ fs)) p ps is (least (rank f))
    (pick (suc (rank f)) g (more ++ fs) p ps too less (next (suc (rank g))))
pick_more true false f g more fs p ps is too less next =
    pick 0 f (more ++ fs) p ps is (least (rank f)) (next (suc (rank f)))
pick_more false true f g more fs p ps is too less next =
    pick 0 g (more ++ fs) p ps too (least (rank g)) (next (suc (rank g)))
pick_more false false f g more fs p ps is too less next = next 0

-- ---- items one by one

-- where the faults of each item are named with its places, those of all are
pick_items : {X : Type 0} (rule : List X → X → List ScopeFault) (of : X → List Span)
    (each : (before : List X) (x : X) (fs : List ScopeFault) (ps : List Span) → Picks 0 fs ps →
    Picks 0 (rule before x ++ fs) (of x ++ ps)) (before xs : List X) (fs : List ScopeFault)
    (ps : List Span) → Picks 0 fs ps →
    Picks 0 (one_by_one rule before xs ++ fs) (flat_map of xs ++ ps)
pick_items rule of each before [] fs ps picks = picks
pick_items rule of each before (x ∷ xs) fs ps picks =
    let rest = pick_items rule of each (before ++ x ∷ []) xs fs ps picks in
    let all = each before x (one_by_one rule (before ++ x ∷ []) xs ++ fs) (flat_map of xs ++ ps)
    rest in
    subst (λ (qs : List Span). Picks 0 ((rule before x ++ one_by_one rule (before ++ x ∷ []) xs)
    ++ fs) qs) (sym (append_assoc (of x) (flat_map of xs) ps))
    (subst (λ (gs : List ScopeFault). Picks 0 gs (of x ++ (flat_map of xs ++ ps)))
    (sym (append_assoc (rule before x) (one_by_one rule (before ++ x ∷ []) xs) fs)) all)

module _ (scope : Scope) where
  pick_mention : (known : List (List ℕ)) (m : Mention) (fs : List ScopeFault) (ps : List Span) →
      Picks 0 fs ps → Picks 0 (mention_faults scope known m ++ fs) (mention_places m ++ ps)
  pick_mention known (Declares v) fs ps picks =
      let less : 2 ≤ 10 = omega arith in
      pick_both _ _ (fault.TwoVariables v.span) (fault.TooManyLocals v.span) fs v.span ps refl refl
      less (past fs v.span ps picks)
  pick_mention known (Refers (Variable v)) fs ps picks =
      pick_one 0 _ (fault.NoVariable v.span) fs v.span ps refl (least 0) (past fs v.span ps picks)
  pick_mention known (Refers (Local f count)) fs ps picks =
      let less : 3 ≤ 4 = omega arith in
      pick_both _ _ (fault.NoFunction f.span) (fault.Arguments f.span) fs f.span ps refl refl less
      (past fs f.span ps picks)
  pick_mention known (Refers (External unit f count)) fs ps picks =
      pick_each _ _ (fault.NoUnit unit.span) (fault.Arguments f.span) fs unit.span f.span ps refl
      refl picks
  pick_mention known (Refers (Library library f count)) fs ps picks =
      pick_each _ _ (fault.NoLibrary library.span) (fault.Arguments f.span) fs library.span f.span
      ps refl refl picks
  pick_mention known (Jumps word inside) fs ps picks =
      pick_one 0 _ (fault.LoneBreak word) fs word ps refl (least 8) (past fs word ps picks)

  pick_function : (before : List Function) (f : Function) (fs : List ScopeFault)
      (ps : List Span) → Picks 0 fs ps →
      Picks 0 (function_rule scope before f ++ fs) (function_places f ++ ps)
  pick_function before f fs ps picks =
      let more = one_by_one (mention_rule scope) [] (said f) in
      let after = flat_map mention_places (said f) ++ ps in
      let less : 4 ≤ 11 = omega arith in
      pick_more _ _ (fault.TwoFunctions f.name.span) (fault.TooManyFunctions f.name.span) more fs
      f.name.span after refl refl less (past (more ++ fs) f.name.span after
      (pick_items (mention_rule scope) mention_places
      (λ before m fs ps picks. pick_mention (names_declared before) m fs ps picks) [] (said f) fs
      ps picks))

pick_use : (before : List Use) (u : Use) (fs : List ScopeFault) (ps : List Span) →
    Picks 0 fs ps → Picks 0 (use_rule before u ++ fs) (use_places u ++ ps)
pick_use before (Url u url) fs ps picks =
    pick_one 0 _ (fault.TwoUnits u.span) fs u.span ps refl (least 6) (past fs u.span ps picks)
pick_use before (Access domain path span) fs ps picks =
    pick_one 0 _ (fault.TwoAccess span) fs span ps refl (least 9) (past fs span ps picks)
pick_use before _ fs ps picks = picks

-- ---- programs

pub picked : (p : Program) → Picks 0 (faults p) (places p)
picked p =
    let rule = function_rule (scope_of p) in
    let all = pick_items rule function_places (pick_function (scope_of p)) [] p.functions [] []
    (none 0) in
    pick_items use_rule use_places pick_use [] p.uses (one_by_one rule [] p.functions)
    (flat_map function_places p.functions)
    (subst (λ (ps : List Span). Picks 0 (one_by_one rule [] p.functions) ps)
    (append-nil (flat_map function_places p.functions))
    (subst (λ (fs : List ScopeFault). Picks 0 fs (flat_map function_places p.functions ++ []))
    (append-nil (one_by_one rule [] p.functions)) all))

pub ascend : (p : Program) → AscendFrom 0 (places p) → AscendFrom 0 (fault_places (faults p))
ascend p up = picked_ascend 0 (faults p) (places p) (picked p) 0 up

pub placed_all : (p : Program) → All (λ f. f ≢ fault.NoMemory) (faults p)
placed_all p = picked_placed 0 (faults p) (places p) (picked p)
