-- What a loop over items has added to the constants. This project's own.
use Rattle.std.specs.Prelude.{ℕ, List, drop}
use Rattle.std.specs.List.{flat_map}
use Rattle.wap_meaning.specs.coding.Constants.{Numbers}
use Rattle.wap_meaning.specs.coding.Needs.{Need}
use Rattle.wap_codegen.specs.pool.inside.Pools.{Pools}

-- of these items so many are added: with the rest all are
abbrev pub Leaves : {X : Type 0} → (X → List Need) → List X → ℕ → Numbers → Numbers → Type 0
Leaves f xs i old here =
    (last : Numbers) → Pools (flat_map f (drop i xs)) here last → Pools (flat_map f xs) old last
