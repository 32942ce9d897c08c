-- How a fault is printed: its name, and its fields in order. This project's own.
use Rattle.std.specs.Prelude.{ℕ, List, ◌∷◌, ◌++◌, decimal}
use Rattle.std.specs.List.{flat_map}
use Rattle.wap_base.specs.Ascii.{space}

-- a field, after a space
abbrev pub field_text : ℕ → List ℕ
field_text field = space ∷ decimal field

-- a name and its fields
abbrev pub fault_text : List ℕ → List ℕ → List ℕ
fault_text name fields = name ++ flat_map field_text fields
