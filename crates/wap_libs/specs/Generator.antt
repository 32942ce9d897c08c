-- The generator of a session's random numbers. Its words are those of the crate `rand_pcg`, a PCG
-- generator of 32-bit words (XSH RR) that is seeded by a number. This project's own.
use Rattle.std.specs.Prelude.{◌≡◌, ℕ, ◌+◌, ◌-◌, ◌^◌, ◌<◌, min}
use Rattle.rand_core.specs.Pcg32Seed.{pcg32_seed}
use Rattle.rand_pcg.specs.Lcg.{Lcg, advance}
use Rattle.rand_pcg.specs.Pcg.{pcg32, pcg32_of_seed, multiplier_64}

-- the state of the generator, and how it came to it
pub record Generator : Type 0 where
  -- the session's
  pub seed : ℕ
  -- the seed from which it started last
  pub start : ℕ
  -- how many words were drawn since, as far as they are counted
  pub drawn : ℕ
  pub state : Lcg

-- from its parts
abbrev pub generator_of : ℕ → ℕ → ℕ → Lcg → Generator
generator_of seed start drawn state =
    record { seed = seed; start = start; drawn = drawn; state = state }

-- the greatest count of words, at which it stands still
abbrev pub most_drawn : ℕ
most_drawn = 2 ^ 64 - 1

-- the state that a number seeds
abbrev pub seeded : ℕ → Lcg
seeded n = pcg32_of_seed (pcg32_seed 16 n)

-- the session's generator, started from a seed
abbrev pub started_from : ℕ → ℕ → Generator
started_from seed start = generator_of seed start 0 (seeded start)

-- the word that is drawn next
abbrev pub next_word : Generator → ℕ
next_word g = (pcg32 g.state).0

-- the generator after that word
abbrev pub after_word : Generator → Generator
after_word g = record g { drawn = min (g.drawn + 1) most_drawn; state = (pcg32 g.state).1 }

-- while all words are counted, the state is that of the start after so many steps
abbrev pub KeepsCount : Generator → Type 0
KeepsCount g = g.drawn < most_drawn → g.state ≡ advance 64 multiplier_64 g.drawn (seeded g.start)
