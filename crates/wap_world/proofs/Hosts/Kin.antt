-- Steps that are kin: the second is the first, moved, as behind another step, and of the first this
-- is so. They stay kin by what scripts add to steps and change of worlds.
use Rattle.std.proofs.Common.{◌≡◌, ℕ, false, List, [], ◌∷◌, ◌++◌, Option, Some, None, refl, sym, ap}
use Rattle.std.proofs.Common.{◌∙◌}
use Rattle.std.specs.Prelude.{⊤, ◌||◌}
use Rattle.std.specs.Option.{option_to_list}
use Rattle.wap_base.specs.declared.key.Key.{Key}
use Rattle.wap_value.specs.declared.value.Value.{Value}
use Rattle.wap_vars.specs.Variables.{Variables}
use Rattle.wap_cardrules.specs.declared.task.Task.{Task}
use Rattle.wap_libs.specs.Outcome.{generator_after}
use Rattle.std.specs.List.{last_or}
use Rattle.wap_world.specs.declared.history.Entry.{Entry}
use Rattle.wap_world.specs.declared.timer.Timer.TheVariants.{Running, Expired}
use Rattle.wap_world.specs.World.{World, last_entry}
use Rattle.wap_world.specs.Steps.{AccessTest, Step, then_step}
use Rattle.wap_world.specs.Starting.{in_world}
use Rattle.wap_world.specs.site.Misses.{Asked}
use Rattle.wap_world.proofs.Alike.{Fact}
use Rattle.wap_world.proofs.Joining.{before, joined_assoc}

-- ---- what is added to a step

-- a step with so much more
abbrev pub with_more : List (List ℕ) → List Asked → List AccessTest → Step → Step
with_more lines asked tests s = record s {
  lines = s.lines ++ lines;
  asked = s.asked ++ asked;
  tests = s.tests ++ tests;
  is_open = s.is_open || false;
}

-- what a library changes of a world: variables are set, a task is asked for, the context is new, or
-- a random number is drawn
pub data Change : Type 0 where
  Sets : Variables → Change
  Pends : Option Task → Change
  Anew : Change
  Draws : ℕ → ℕ → List Value → Change

-- the world after it
abbrev pub changed : Change → World → World
changed (Sets vars) w = record w { vars = vars }
changed (Pends one) w = record w { pending = one }
changed Anew w = record w { vars = []; history = option_to_list (last_entry w) }
changed (Draws library function arguments) w =
    record w { generator = generator_after library function arguments w.generator }

-- no turn is taken
pub turns_changed : (change : Change) (w : World) → (changed change w).turns ≡ w.turns
turns_changed Anew w = refl
turns_changed change w = refl

-- and the current card is left
pub last_changed : (change : Change) (w : World) → last_entry (changed change w) ≡ last_entry w
last_changed Anew w = by (last_entry w)
  where
    by : (o : Option Entry) → last_or None (option_to_list o) ≡ o
    by None = refl
    by (Some entry) = refl
last_changed change w = refl

-- how a step is moved that calls don't see: its world stays, and it is moved alike with more in it
pub record Moves (φ : Step → Step) : Type 0 where
  pub world : (s : Step) → (φ s).world ≡ s.world
  pub more : (lines : List (List ℕ)) (asked : List Asked) (tests : List AccessTest) (s : Step)
      → φ (with_more lines asked tests s) ≡ with_more lines asked tests (φ s)
  pub places : (w : World) (s : Step) → φ (in_world w s) ≡ in_world w (φ s)

-- what is so of a step is so with more in it, and after a library's changes
pub record Holds (So : Step → Type 0) : Type 0 where
  pub more : (lines : List (List ℕ)) (asked : List Asked) (tests : List AccessTest) (s : Step)
      → So s → So (with_more lines asked tests s)
  pub changes : (change : Change) (s : Step) → So s → So (in_world (changed change s.world) s)

-- how two steps are akin: the second is the first, moved, and of the first this is so
pub record Kinship : Type 1 where
  pub moved : Step → Step
  pub So : Step → Type 0
  pub moves : Moves moved
  pub holds : Holds So

-- two steps are
pub record Kin (k : Kinship) (s t : Step) : Type 0 where
  pub is : t ≡ k.moved s
  pub so : k.So s

-- ---- steps stay kin

module _ (k : Kinship) (s t : Step) (kin : Kin k s t) where
  -- kin steps are in the same world
  pub same_world : s.world ≡ t.world
  same_world = sym (ap (λ (u : Step). u.world) kin.is ∙ k.moves.world s)

  -- in another world
  pub world_kin : (w v : World) → w ≡ v → k.So (in_world w s)
      → Kin k (in_world w s) (in_world v t)
  world_kin w v same so = record {
    is = (λ i. in_world (sym same i) (kin.is i)) ∙ sym (k.moves.places w s);
    so = so;
  }

  -- after a change
  pub change_kin : (change : Change)
      → Kin k (in_world (changed change s.world) s) (in_world (changed change t.world) t)
  change_kin change =
      world_kin (changed change s.world) (changed change t.world)
      (ap (changed change) same_world) (k.holds.changes change s kin.so)

  -- with more in both
  pub more_kin : (lines : List (List ℕ)) (asked : List Asked) (tests : List AccessTest)
      → Kin k (with_more lines asked tests s) (with_more lines asked tests t)
  more_kin lines asked tests = record {
    is = ap (with_more lines asked tests) kin.is ∙ sym (k.moves.more lines asked tests s);
    so = k.holds.more lines asked tests s kin.so;
  }

-- ---- behind another step

-- a step behind another, and before other keys
abbrev pub behind : Step → (List Key → List Key) → Step → Step
behind p f s = then_step p (before (f s.keys) s)

-- calls don't see that
pub goes_behind : (p : Step) (f : List Key → List Key) → Moves (behind p f)
goes_behind p f = record {
  world = λ s. refl;
  more = λ lines asked tests s. sym (joined_assoc p (before (f s.keys) s) (record {
    world = s.world;
    keys = f s.keys;
    lines = lines;
    asked = asked;
    tests = tests;
    is_open = false;
  }));
  places = λ w s. refl;
}

-- the second is the first behind a step, and nothing is said of it
abbrev pub after : Step → Kinship
after p = record {
  moved = behind p (λ keys. keys);
  So = λ s. ⊤;
  moves = goes_behind p (λ keys. keys);
  holds = record { more = λ lines asked tests s so. tt; changes = λ change s so. tt };
}

-- ---- the same steps

-- both are the same, and this is so of them
abbrev pub staying : (So : Step → Type 0) → Holds So → Kinship
staying So holds = record {
  moved = λ s. s;
  So = So;
  moves = record {
    world = λ s. refl;
    more = λ lines asked tests s. refl;
    places = λ w s. refl;
  };
  holds = holds;
}

-- what is so of the keys that are left and of the world is so after whatever scripts do: after a
-- library's changes, with a key less, with a timer that ran counting on, and with it run out
pub record InScripts (J : Fact) : Type 0 where
  pub turns : (k : List Key) (w : World) (n : ℕ) → J k w → J k (record w { turns = n })
  pub changes : (change : Change) (k : List Key) (w : World) → J k w → J k (changed change w)
  pub takes : (one : Key) (k : List Key) (w : World) → J (one ∷ k) w → J k w
  pub counts : (k : List Key) (w : World) (time left : ℕ) → w.timer ≡ Running time → J k w
      → J k (record w { timer = Running left })
  pub expires : (k : List Key) (w : World) (time : ℕ) → w.timer ≡ Running time → J k w
      → J k (record w { timer = Expired })

-- both are the same, and this is so of their keys and world
abbrev pub keeping : (J : Fact) → InScripts J → Kinship
keeping J keeps = staying (λ s. J s.keys s.world) (record {
  more = λ lines asked tests s so. so;
  changes = λ change s so. keeps.changes change s.keys s.world so;
})
