-- The words of a generator, one after the other.
use Rattle.std.proofs.Common.{◌≡◌, ℕ, zero, suc, ◌+◌, refl, ap, sym, ◌∙◌, add-one, ◌≤◌, arith}
use Rattle.std.specs.Prelude.{◌<◌}
use Rattle.std.specs.Fn.{iterate}
use Rattle.std.proofs.Math.Nat.{min-eq_left}
use Rattle.rand_pcg.specs.Lcg.{Lcg, next, next_state, state_after, advance}
use Rattle.rand_pcg.specs.Pcg.{multiplier_64}
use Rattle.wap_libs.specs.Generator.{Generator, generator_of, after_word, most_drawn, seeded}
use Rattle.wap_libs.specs.Generator.{started_from, KeepsCount}

-- one step more at the end
pub state_after-more : (w m increment n state : ℕ)
    → state_after w m increment (suc n) state
    ≡ next_state w m increment (state_after w m increment n state)
unfolding state_after
state_after-more w m increment zero state = refl
state_after-more w m increment (suc n) state =
    state_after-more w m increment n (next_state w m increment state)

pub advance-more : (w m n : ℕ) (g : Lcg) → advance w m (n + 1) g ≡ next w m (advance w m n g)
advance-more w m n g =
    ap (λ k. advance w m k g) (add-one n)
    ∙ ap (λ s. record g { state = s }) (state_after-more w m g.increment n g.state)

pub advance-none : (w m : ℕ) (g : Lcg) → g ≡ advance w m 0 g
unfolding state_after
advance-none w m g = refl

-- a word that is counted
pub counted : (seed start drawn : ℕ) (state : Lcg) → drawn + 1 ≤ most_drawn
    → after_word (generator_of seed start drawn state)
    ≡ generator_of seed start (drawn + 1) (next 64 multiplier_64 state)
counted seed start drawn state within =
    ap (λ count. generator_of seed start count (next 64 multiplier_64 state)) (min-eq_left within)

-- the generator after n words that are all counted
pub after_words : (seed start n drawn : ℕ) (state : Lcg) → drawn + n ≤ most_drawn
    → iterate after_word n (generator_of seed start drawn state)
    ≡ generator_of seed start (drawn + n) (advance 64 multiplier_64 n state)
unfolding state_after
after_words seed start zero drawn state within =
    ap (λ count. generator_of seed start count state) (omega (arith))
after_words seed start (suc n) drawn state within =
    ap (iterate after_word n) (counted seed start drawn state (omega (arith, within)))
    ∙ after_words seed start n (drawn + 1) (next 64 multiplier_64 state) (omega (arith, within))
    ∙ ap (λ count. generator_of seed start count (advance 64 multiplier_64 (suc n) state))
    (omega (arith))

-- the generator at a place is the one that its start and so many words give
pub after_words-from_start : (seed start drawn : ℕ) → drawn ≤ most_drawn
    → iterate after_word drawn (started_from seed start)
    ≡ generator_of seed start drawn (advance 64 multiplier_64 drawn (seeded start))
after_words-from_start seed start drawn within =
    after_words seed start drawn 0 (seeded start) (omega (arith, within))
    ∙ ap (λ count. generator_of seed start count (advance 64 multiplier_64 drawn (seeded start)))
    (omega (arith))

-- while all its words are counted, a generator is the one at its place
pub at_its_place : (g : Generator) → KeepsCount g → g.drawn < most_drawn
    → g ≡ iterate after_word g.drawn (started_from g.seed g.start)
at_its_place g keeps fewer =
    ap (generator_of g.seed g.start g.drawn) (keeps fewer)
    ∙ sym (after_words-from_start g.seed g.start g.drawn (omega (arith, fewer)))
