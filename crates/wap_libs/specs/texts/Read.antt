-- What was read from the beginning of a text, and what follows it. This project's own.
use Rattle.std.specs.Prelude.{List, ℕ}
use denote.Ref.{Bor}

-- what was read, beside the rest of the text as it is seen now
abbrev pub with_rest : {A : Type 0} → A × Bor (List ℕ) → A × List ℕ
with_rest (read, rest) = (read, rest.now)
