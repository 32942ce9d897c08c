-- Steps of two sites that are the same, or both lost: what follows them and what comes before them
-- leaves them so. What is so of the keys and of the world that they leave is an invariant.
use Rattle.std.proofs.Common.{◌≡◌, ◌⊎◌, inl, inr, Bool, true, List, ◌++◌, Option, Some, None, refl}
use Rattle.std.proofs.Common.{ap, subst}
use Rattle.std.proofs.lemmas.Bool.{or_left, or_right}
use Rattle.std.specs.Prelude.{◌||◌, ⊤}
use Rattle.wap_base.specs.declared.key.Key.{Key}
use Rattle.wap_world.specs.site.Misses.{Asked}
use Rattle.wap_world.specs.World.{World}
use Rattle.wap_world.specs.Steps.{AccessTest, Step, Once, Next, then_step, after_step}
use Rattle.wap_world.specs.Tasks.{go_on, onward}

-- what may be so of the keys that are left, and of the world
abbrev pub Fact : Type 1
Fact = List Key → World → Type 0

-- nothing is asked of them
abbrev pub Anything : Fact
Anything keys w = ⊤

-- what counts as lost, by what was asked for, the tests, and whether a dialog stays open
abbrev pub Loss : Type 1
Loss = List Asked → List AccessTest → Bool → Type 0

-- what is lost stays lost, whatever comes before or after it, and where a dialog stays open
pub record Losing (Lost : Loss) : Type 0 where
  pub first : (asked more : List Asked) (tests others : List AccessTest) (one other : Bool)
      → Lost asked tests one → Lost (asked ++ more) (tests ++ others) (one || other)
  pub second : (asked more : List Asked) (tests others : List AccessTest) (one other : Bool)
      → Lost more others other → Lost (asked ++ more) (tests ++ others) (one || other)
  pub opens : (asked : List Asked) (tests : List AccessTest) (one : Bool) → Lost asked tests one
      → Lost asked tests true

-- nothing is lost
abbrev pub Never : Loss
Never asked tests one = ⊥

pub never_lost : Losing Never
never_lost = record {
  first = λ asked more tests others one other lost. lost;
  second = λ asked more tests others one other lost. lost;
  opens = λ asked tests one lost. lost;
}

-- lost is what ends in a dialog
abbrev pub Opens : Loss
Opens asked tests one = one ≡ true

pub stays_open : Losing Opens
stays_open = record {
  first = λ asked more tests others one other is. or_left one other is;
  second = λ asked more tests others one other is. or_right one other is;
  opens = λ asked tests one is. refl;
}

-- a step that is lost
abbrev pub IsLost : Loss → Step → Type 0
IsLost Lost step = Lost step.asked step.tests step.is_open

-- the same, by whose steps the invariant is left, or both are lost
abbrev pub AlikeBy : {S : Type 0} → Fact → Loss → (S → Step) → S → S → Type 0
AlikeBy I Lost step a b = ((a ≡ b) × I (step a).keys (step a).world)
    ⊎ (IsLost Lost (step a) × IsLost Lost (step b))

-- steps
abbrev pub StepAlike : Fact → Loss → Step → Step → Type 0
StepAlike I Lost = AlikeBy I Lost (λ (step : Step). step)

-- navigations
abbrev pub OnceAlike : Fact → Loss → Once → Once → Type 0
OnceAlike I Lost = AlikeBy I Lost (λ (once : Once). once.step)

-- where the first isn't lost, they are the same
pub unless_lost : {S : Type 0} (I : Fact) (Lost : Loss) (step : S → Step) (a b : S)
    → (IsLost Lost (step a) → ⊥) → AlikeBy I Lost step a b
    → (a ≡ b) × I (step a).keys (step a).world
unless_lost I Lost step a b none (inl is) = is
unless_lost I Lost step a b none (inr lost) = absurd (none lost.0)

module _ (I : Fact) (Lost : Loss) (losing : Losing Lost) where
  -- what comes after a lost step leaves it lost
  pub first : (a b : Step) → IsLost Lost a → IsLost Lost (then_step a b)
  first a b = losing.first a.asked b.asked a.tests b.tests a.is_open b.is_open

  -- and so does what comes before it
  pub second : (a b : Step) → IsLost Lost b → IsLost Lost (then_step a b)
  second a b = losing.second a.asked b.asked a.tests b.tests a.is_open b.is_open

  -- a step before both
  pub joined_alike : (step a b : Step) → StepAlike I Lost a b
      → StepAlike I Lost (then_step step a) (then_step step b)
  joined_alike step a b (inl is) = inl (ap (then_step step) is.0, is.1)
  joined_alike step a b (inr lost) = inr (second step a lost.0, second step b lost.1)

  -- a step before both navigations
  pub after_alike : (step : Step) (a b : Once) → OnceAlike I Lost a b
      → OnceAlike I Lost (after_step step a) (after_step step b)
  after_alike step a b (inl is) = inl (ap (after_step step) is.0, is.1)
  after_alike step a b (inr lost) = inr (second step a.step lost.0, second step b.step lost.1)

  -- the steps of navigations
  pub step_alike : (a b : Once) → OnceAlike I Lost a b → StepAlike I Lost a.step b.step
  step_alike a b (inl is) = inl (ap (λ (once : Once). once.step) is.0, is.1)
  step_alike a b (inr lost) = inr lost

  -- two ways to act on a task that come to the same
  abbrev pub ActsAlike : (List Key → World → Next → Step) → (List Key → World → Next → Step)
      → Type 0
  ActsAlike f g =
      (keys : List Key) (w : World) (next : Next) → I keys w
      → StepAlike I Lost (f keys w next) (g keys w next)

  -- what a navigation leads to
  leads_alike : (f g : List Key → World → Next → Step) → ActsAlike f g → (step : Step)
      (o : Option Next) → I step.keys step.world
      → StepAlike I Lost (go_on f step o) (go_on g step o)
  leads_alike f g same step None i = inl (refl, i)
  leads_alike f g same step (Some next) i =
      joined_alike step (f step.keys step.world next) (g step.keys step.world next)
      (same step.keys step.world next i)

  -- a lost step stays lost in what it leads to
  leads_lost : (f : List Key → World → Next → Step) (step : Step) (o : Option Next)
      → IsLost Lost step → IsLost Lost (go_on f step o)
  leads_lost f step None lost = lost
  leads_lost f step (Some next) lost = first step (f step.keys step.world next) lost

  -- navigations, and all that they lead to
  pub onward_alike : (f g : List Key → World → Next → Step) → ActsAlike f g → (a b : Once)
      → OnceAlike I Lost a b → StepAlike I Lost (onward f a) (onward g b)
  onward_alike f g same a b (inl is) =
      subst (λ (c : Once). StepAlike I Lost (onward f a) (onward g c)) is.0
      (leads_alike f g same a.step a.next is.1)
  onward_alike f g same a b (inr lost) =
      inr (leads_lost f a.step a.next lost.0, leads_lost g b.step b.next lost.1)
