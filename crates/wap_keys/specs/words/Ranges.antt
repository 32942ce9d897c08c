-- The ranges of the numbers of a command. This project's own.
use Rattle.std.specs.Prelude.{ℕ, ◌≤◌}
use Rattle.wap_base.specs.Limits.{AreInRange}
use Rattle.wap_keys.specs.declared.words.numbers.TheConstants.{LEAST_BUDGET, LEAST_CACHE}
use Rattle.wap_keys.specs.declared.words.numbers.TheConstants.{MOST_CACHE}
use Rattle.wap_keys.specs.declared.words.numbers.TheConstants.{LEAST_WORKERS, MOST_WORKERS}
use Rattle.wap_keys.specs.declared.words.words.Browse.{Browse}
use Rattle.wap_keys.specs.declared.words.words.Replay.{Replay}
use Rattle.wap_keys.specs.declared.words.words.Resume.{Resume}
use Rattle.wap_keys.specs.declared.words.words.Command.{Command}
use Rattle.wap_keys.specs.declared.words.words.Command.TheVariants as command

-- the numbers of `browse` and `image`
pub record BrowsesInRange (one : Browse) : Type 0 where
  pub some_turns : LEAST_BUDGET ≤ one.budget
  pub some_pages : LEAST_CACHE ≤ one.cache
  pub few_pages : one.cache ≤ MOST_CACHE
  pub limits : AreInRange one.limits

-- the number of `resume`
pub record ResumesInRange (one : Resume) : Type 0 where
  pub some_pages : LEAST_CACHE ≤ one.cache
  pub few_pages : one.cache ≤ MOST_CACHE

-- so many workers may share the work
pub record AreWorkers (count : ℕ) : Type 0 where
  pub some : LEAST_WORKERS ≤ count
  pub few : count ≤ MOST_WORKERS

-- the numbers of `replay`
pub record ReplaysInRange (one : Replay) : Type 0 where
  pub some_turns : LEAST_BUDGET ≤ one.budget
  pub workers : AreWorkers one.workers
  pub limits : AreInRange one.limits

-- each number of a command is in its range
abbrev pub HasRanges : Command → Type 0
HasRanges (command.Browse one) = BrowsesInRange one
HasRanges (command.Image one) = BrowsesInRange one
HasRanges (command.Resume one) = ResumesInRange one
HasRanges (command.Page on name) = Unit {0}
HasRanges (command.Prepare workers) = AreWorkers workers
HasRanges (command.Make n) = Unit {0}
HasRanges (command.Replay one) = ReplaysInRange one
