-- Answers of a store, call after call. This project's own.
use Rattle.std.specs.Prelude.{◌≡◌, ℕ, List}
use Rattle.std.specs.List.{Contains}
use Rattle.wap_devices.specs.Stores.{Answers}
use Rattle.wap_devices.specs.declared.store.Fetched.{Fetched}

-- each name was answered one way: any two answers for a name are the same
abbrev pub AnswersOneWay : Answers → Type 0
AnswersOneWay answers = (one other : List ℕ × Fetched) → Contains answers one
    → Contains answers other → one.0 ≡ other.0 → one.1 ≡ other.1
