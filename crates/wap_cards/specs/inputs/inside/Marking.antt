-- Steps of making a choice. This project's own.
use Rattle.std.specs.Prelude.{ℕ, Bool, true, ◌==◌, ◌-◌, if◌then◌else◌, slice_set, List, [], ◌∷◌}
use Rattle.wap_cardrules.specs.Selects.{Choice}

-- with the option of this number chosen too
abbrev pub marked : ℕ → Choice → Choice
marked number choice = if number == 0 then choice else slice_set choice (number - 1) true

abbrev pub number_if : Bool → ℕ → List ℕ
number_if is_it number = if is_it then number ∷ [] else []

abbrev pub text_if : Bool → List ℕ → List (List ℕ)
text_if is_it text = if is_it then text ∷ [] else []
