-- What calls answer on attributes, as a reading has it. This project's own.
use Rattle.std.specs.Prelude.{ℕ, List, find, Option}
use Rattle.std.specs.Borrow.{Bor}
use Rattle.std.specs.Option.{option_map}
use Rattle.std.specs.Str.{chars}
use Rattle.wap_base.specs.declared.name.Part.{Part}
use Rattle.wap_tokens.specs.declared.markup.name.AttrName.{AttrName}
use Rattle.wap_tokens.specs.markup.Tables.{Start, is_same_attr}

abbrev pub LentStart : Type 0
LentStart = AttrName × Bor (List ℕ) × Bor (List ℕ)

-- a start, and the bytes after it
abbrev pub start_seen : LentStart → Start × List ℕ
start_seen start = ((start.0, chars start.1.now), start.2.now)

-- the value of the first attribute of this name
abbrev pub value_in : AttrName → List (AttrName × List Part) → Option (List Part)
value_in name attrs = option_map (λ a. a.1) (find (λ a. is_same_attr a.0 name) attrs)
