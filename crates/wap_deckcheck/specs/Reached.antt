-- How far the elements before have come in the order of a rule's groups. This project's own.
use Rattle.std.specs.Prelude.{◌≡◌, ℕ, Bool, ◌&&◌, Some, List, nat_le}
use Rattle.std.specs.List.{list_any, list_all}
use Rattle.wap_tokens.specs.declared.markup.deck.Item.{Item}
use Rattle.wap_tokens.specs.declared.markup.name.Tag.{Tag}
use Rattle.wap_tokens.specs.markup.Good.{Rule, is_among, place_in, is_not_behind, tags_of}

-- none of these elements has a place after this one if and only if this one isn't before the one
-- that is reached
abbrev pub HasReached : Rule → List Item → ℕ → Type 0
HasReached rule items reached = (place : ℕ) →
    list_all (λ first. is_not_behind (place_in rule.groups first) (Some place)) (tags_of items)
    ≡ nat_le reached place

-- the same with one element more
abbrev pub IsReachedBy : Rule → ℕ → Tag → ℕ → Type 0
IsReachedBy rule reached tag next = (place : ℕ) →
    nat_le next place
    ≡ (nat_le reached place && is_not_behind (place_in rule.groups tag) (Some place))

-- a group that holds a tag has one of these tags too
abbrev pub is_used_with : List (List Tag) → Tag → List Tag → Bool
is_used_with groups tag earlier =
    list_any (λ group. is_among group tag && list_any (is_among group) earlier) groups
