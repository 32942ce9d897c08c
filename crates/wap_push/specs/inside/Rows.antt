-- The tables' rows as a program has them, their texts lent, in columns. This project's own.
use Rattle.std.specs.Prelude.{ℕ, List, map}
use Rattle.std.specs.Borrow.{Bor}
use Rattle.wap_push.specs.declared.indication.Action.{Action}
use Rattle.wap_push.specs.declared.names.PushField.{PushField}
use Rattle.wap_push.specs.Tables.{Start}

-- a start that is lent
abbrev pub lent_start : PushField × Bor (List ℕ) → Start
lent_start start = (start.0, start.1.now)

-- the column of codes, each with its start
abbrev pub starts_by_code : List (ℕ × PushField × Bor (List ℕ)) → List (ℕ × Start)
starts_by_code = map (λ row. (row.0, (row.1, row.2.now)))

-- the column of codes, each with its text
abbrev pub texts_by_code : List (ℕ × Bor (List ℕ)) → List (ℕ × List ℕ)
texts_by_code = map (λ row. (row.0, row.1.now))

-- the column of texts, each with its action
abbrev pub actions_by_text : List (Bor (List ℕ) × Action) → List (List ℕ × Action)
actions_by_text = map (λ row. (row.0.now, row.1))
