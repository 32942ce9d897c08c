-- The pieces into which jobs are cut, one for each worker. This project's own.
use Rattle.std.specs.Prelude.{ℕ, ◌+◌, ◌*◌, ◌/◌, ◌%◌, min, List, [], Result, Ok, Err, Vec}
use Rattle.std.specs.declared.alloc.Global.{Global}
use Rattle.wap_base.specs.declared.fault.NoMemory.{NoMemory}

-- where the piece of a number begins: the first pieces may be longer by one than the others
abbrev pub piece_start : ℕ → ℕ → ℕ → ℕ
piece_start len count k = k * (len / count) + min k (len % count)

-- the answers of a piece, and none where memory ran out
abbrev pub piece_items : {A : Type 0} → Result (Vec A Global) NoMemory → List A
piece_items (Ok answers) = answers.items
piece_items (Err fault) = []
