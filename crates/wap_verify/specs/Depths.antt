-- One number of values for each place, and the places whose ways aren't followed yet. This
-- project's own.
use Rattle.std.specs.Prelude.{ℕ, ◌+◌, max, List, [], ◌∷◌, ◌++◌, length, slice_get, slice_set}
use Rattle.std.specs.Prelude.{Option, Some, None}
use Rattle.wap_verify.specs.declared.step.Way.{Way}
use Rattle.wap_verify.specs.Paths.{Stand}

-- what is known so far: for each place the number of values there, once a way ended at it, the
-- places that wait, and the greatest number
pub record State : Type 0 where
  pub depths : List (Option ℕ)
  pub pending : List Stand
  pub room : ℕ

-- what is kept for a place; past the end of the code nothing is
abbrev pub depth_of : State → ℕ → Option (Option ℕ)
depth_of state at = slice_get state.depths at

-- when a way ends at a place with so many values, by what is kept for it: the first makes it wait
abbrev pub noted : State → ℕ → ℕ → Option (Option ℕ) → State
noted state to values None =
    record { depths = state.depths; pending = state.pending; room = max state.room values }
noted state to values (Some (Some other)) =
    record { depths = state.depths; pending = state.pending; room = max state.room values }
noted state to values (Some None) =
    record {
      depths = slice_set state.depths to (Some values);
      pending = state.pending ++ (to, values) ∷ [];
      room = max state.room values;
    }

-- when a way ends at a place with so many values
abbrev pub arrived : State → ℕ → ℕ → State
arrived state to values = noted state to values (depth_of state to)

-- when so many values are left before a way, if there is one
abbrev pub followed : State → ℕ → Option Way → State
followed state left None = state
followed state left (Some way) = arrived state way.to (left + way.gives)

-- how many places have no number yet
abbrev pub unseen : List (Option ℕ) → ℕ
unseen [] = 0
unseen (None ∷ depths) = 1 + unseen depths
unseen (Some values ∷ depths) = unseen depths

-- a number that gets less with each place that is visited
abbrev pub effort : State → ℕ
effort state = unseen state.depths + unseen state.depths + length state.pending
