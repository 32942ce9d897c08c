-- Winners as a map keeps them: under their identifiers. This project's own.
use Rattle.std.specs.Prelude.{◌≡◌, ℕ, Bool, false, nat_lt, List, Option, Some, None}
use Rattle.std.specs.List.{AllByRecursion}
use Rattle.std.specs.List.Sorted.{IsStrictlySortedBy}
use Rattle.std.specs.Map.{keys_of}
use Rattle.wap_base.specs.Texts.{text_cmp}
use Rattle.wap_push.specs.declared.indication.Indication.{Indication}

-- an identifier, and an indication
abbrev pub Entry : Type 0
Entry = List ℕ × Indication

-- an indication stands under its identifier
abbrev pub IsUnder : Entry → Type 0
IsUnder entry = entry.0 ≡ entry.1.id

-- indications under their identifiers, these in ascending order
pub record AreKeyed (entries : List Entry) : Type 0 where
  pub ordered : IsStrictlySortedBy text_cmp (keys_of entries)
  pub keyed : AllByRecursion IsUnder entries

-- whether an indication was made before the winner, if there is one
abbrev pub loses : Indication → Option Indication → Bool
loses pushed None = false
loses pushed (Some winner) = nat_lt pushed.created winner.created
