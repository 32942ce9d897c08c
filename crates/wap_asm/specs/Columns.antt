-- The columns of the table of libraries, as the code keeps it. This project's own.
use Rattle.std.specs.Prelude.{ℕ, Bool, ◌&&◌, bytes_eq, List}
use Rattle.std.specs.Borrow.{Bor}

-- a row of the table as its function's numbers, and how many arguments it takes
abbrev pub lent_by_number : ℕ × ℕ × ℕ × Bor (List ℕ) × Bor (List ℕ) → (ℕ × ℕ) × ℕ
lent_by_number row = ((row.0, row.1), row.2)

-- a row as its function's names, and the numbers and the count of arguments
abbrev pub lent_by_name : ℕ × ℕ × ℕ × Bor (List ℕ) × Bor (List ℕ) → (List ℕ × List ℕ) × (ℕ × ℕ × ℕ)
lent_by_name row = ((row.3.now, row.4.now), (row.0, row.1, row.2))

-- whether these are the names of a library and its function
abbrev pub has_names : List ℕ → List ℕ → List ℕ × List ℕ → Bool
has_names name function key = bytes_eq key.0 name && bytes_eq key.1 function
