-- Limits that may be chosen, their ranges and those that hold where none is chosen. This project's
-- own.
use Rattle.std.specs.Prelude.{ℕ, ◌≤◌}
use Rattle.wap_base.specs.declared.limits.Limits.{Limits}
use Rattle.wap_base.specs.declared.limits.TheConstants.{DEFAULT_STRING, LEAST_STRING, MOST_STRING}
use Rattle.wap_base.specs.declared.limits.TheConstants.{DEFAULT_HISTORY, LEAST_HISTORY}
use Rattle.wap_base.specs.declared.limits.TheConstants.{MOST_HISTORY, DEFAULT_DEPTH, LEAST_DEPTH}
use Rattle.wap_base.specs.declared.limits.TheConstants.{MOST_DEPTH}

-- a String may have so many bytes of UTF-8 at most
abbrev pub IsStringLimit : ℕ → Type 0
IsStringLimit string = (LEAST_STRING ≤ string) × (string ≤ MOST_STRING)

-- a history may have so many entries at most
abbrev pub IsHistoryLimit : ℕ → Type 0
IsHistoryLimit history = (LEAST_HISTORY ≤ history) × (history ≤ MOST_HISTORY)

-- so many functions at most may be at work at a time, each but the first called by another
abbrev pub IsDepthLimit : ℕ → Type 0
IsDepthLimit depth = (LEAST_DEPTH ≤ depth) × (depth ≤ MOST_DEPTH)

pub record AreInRange (limits : Limits) : Type 0 where
  pub string : IsStringLimit limits.string
  pub history : IsHistoryLimit limits.history
  pub depth : IsDepthLimit limits.depth

abbrev pub default_limits : Limits
default_limits =
    record { string = DEFAULT_STRING; history = DEFAULT_HISTORY; depth = DEFAULT_DEPTH }
