-- Where the names of a program stand one after the other, its faults come one before the other.
use Rattle.std.proofs.Common.{◌≡◌, ℕ, suc, ◌<◌, ◌≤◌, ◌⊎◌, inl, inr, List, [], ◌∷◌, Some}
use Rattle.std.proofs.Common.{All, AllPairs, refl, arith}
use Rattle.std.proofs.lemmas.List.Elements.{All-nil, All-cons}
use Rattle.std.proofs.lemmas.List.Kept.{AllPairs-cons}
use Rattle.wap_grammar.specs.declared.program.program.Span.{Span}
use Rattle.wap_grammar.specs.declared.program.program.Program.{Program}
use Rattle.wap_scope.specs.declared.fault.ScopeFault.{ScopeFault}
use Rattle.wap_scope.specs.Faults.{faults}
use Rattle.wap_scope.specs.Places.{places, fault_place, rank, IsLeftOf, ComesBefore}
use Rattle.wap_scope.proofs.Ascending.{Picks, none, skip, pick, picked}

-- ---- places

-- the first begins at a place or after it, and each other after the one before it
abbrev pub Apart : ℕ → List Span → Type 0
Apart at [] = Unit {0}
Apart at (p ∷ ps) = (at ≤ p.from) × Apart (suc p.from) ps

-- so they do from an earlier place
pub from_earlier : (earlier later : ℕ) (ps : List Span) → earlier ≤ later → Apart later ps →
    Apart earlier ps
from_earlier earlier later [] less up = tt
from_earlier earlier later (p ∷ ps) less up = (omega (arith, less, up.0), up.1)

abbrev From : ℕ → Span → Type 0
From at p = at ≤ p.from

apart : (at : ℕ) (ps : List Span) → All (From at) ps → AllPairs IsLeftOf ps → Apart at ps
apart at [] low up = tt
apart at (p ∷ ps) low up = (
  low 0 p (omega arith),
  apart (suc p.from) ps
      (λ j d within. let one = up 0 (suc j) d (omega arith) (omega (arith, within)) in
      omega (arith, one))
      (λ i j d less within. up (suc i) (suc j) d (omega (arith, less)) (omega (arith, within))),
)

all_from : (at : ℕ) (ps : List Span) → Apart at ps → All (From at) ps
all_from at [] up = All-nil (From at)
all_from at (p ∷ ps) up =
    All-cons (From at) p ps up.0
    (all_from at ps (from_earlier at (suc p.from) ps (omega (arith, up.0)) up.1))

pub pairs_apart : (at : ℕ) (ps : List Span) → Apart at ps → AllPairs IsLeftOf ps
pairs_apart at [] up = λ i j d less within. absurd (omega (arith, within))
pairs_apart at (p ∷ ps) up =
    AllPairs-cons IsLeftOf p ps
    (λ j d within. let one = all_from (suc p.from) ps up.1 j d within in omega (arith, one))
    (pairs_apart (suc p.from) ps up.1)

-- ---- faults

-- a fault is named with a place, or with one after it
abbrev Stands : ℕ → ScopeFault → Type 0
Stands at f = (q : Span) × (fault_place f ≡ Some q) × (at ≤ q.from)

all_stand : (k at : ℕ) (fs : List ScopeFault) (ps : List Span) → Picks k fs ps → Apart at ps →
    All (Stands at) fs
all_stand k at fs ps (none k') up = All-nil (Stands at)
all_stand k at fs ps' (skip k' fs' p ps picks) up =
    all_stand 0 at fs ps picks (from_earlier at (suc p.from) ps (omega (arith, up.0)) up.1)
all_stand k at fs' ps' (pick k' f fs p ps is low picks) up =
    All-cons (Stands at) f fs (p, is, up.0) (all_stand (suc (rank f)) at fs (p ∷ ps) picks up)

-- a fault is named with a place and listed from a number on, or with a later place
abbrev Follows : ℕ → List Span → ScopeFault → Type 0
Follows k [] g = ⊥
Follows k (p ∷ ps) g =
    (q : Span) × (fault_place g ≡ Some q) × ((p.from < q.from) ⊎ ((p ≡ q) × (k ≤ rank g)))

further : (p : Span) (at : ℕ) (ps : List Span) (k : ℕ) (g : ScopeFault) → suc p.from ≤ at →
    Stands at g → Follows k (p ∷ ps) g
further p at ps k g less (q, is, low) = (q, is, inl (omega (arith, less, low)))

sooner : (p : Span) (ps : List Span) (k l : ℕ) (g : ScopeFault) → k ≤ l →
    Follows l (p ∷ ps) g → Follows k (p ∷ ps) g
sooner p ps k l g less (q, is, inl right) = (q, is, inl right)
sooner p ps k l g less (q, is, inr (same, low)) = (q, is, inr (same, omega (arith, less, low)))

all_follow : (k at : ℕ) (fs : List ScopeFault) (ps : List Span) → Picks k fs ps → Apart at ps →
    All (Follows k ps) fs
all_follow k at fs ps (none k') up = All-nil (Follows k [])
all_follow k at fs ps' (skip k' fs' p ps picks) up =
    λ i d within. further p (suc p.from) ps k _ (omega arith)
    (all_stand 0 (suc p.from) fs ps picks up.1 i d within)
all_follow k at fs' ps' (pick k' f fs p ps is low picks) up =
    All-cons (Follows k (p ∷ ps)) f fs (p, is, inr (refl, low))
    (λ i d within. sooner p ps k (suc (rank f)) _ (omega (arith, low))
    (all_follow (suc (rank f)) at fs (p ∷ ps) picks up i d within))

before : (f g : ScopeFault) (p : Span) (ps : List Span) → fault_place f ≡ Some p →
    Follows (suc (rank f)) (p ∷ ps) g → ComesBefore f g
before f g p ps is (q, there, inl right) =
    record { place = p; later = q; here = is; there = there; order = inl right }
before f g p ps is (q, there, inr (same, low)) = record {
  place = p;
  later = q;
  here = is;
  there = there;
  order = inr (same, omega (arith, low));
}

all_pairs : (k at : ℕ) (fs : List ScopeFault) (ps : List Span) → Picks k fs ps → Apart at ps →
    AllPairs ComesBefore fs
all_pairs k at fs ps (none k') up = λ i j d less within. absurd (omega (arith, within))
all_pairs k at fs ps' (skip k' fs' p ps picks) up = all_pairs 0 (suc p.from) fs ps picks up.1
all_pairs k at fs' ps' (pick k' f fs p ps is low picks) up =
    AllPairs-cons ComesBefore f fs
    (λ i d within. before f _ p ps is
    (all_follow (suc (rank f)) at fs (p ∷ ps) picks up i d within))
    (all_pairs (suc (rank f)) at fs (p ∷ ps) picks up)

pub ordered : (p : Program) → AllPairs IsLeftOf (places p) → AllPairs ComesBefore (faults p)
ordered p up =
    all_pairs 0 0 (faults p) (places p) (picked p)
    (apart 0 (places p) (λ i d within. omega arith) up)
