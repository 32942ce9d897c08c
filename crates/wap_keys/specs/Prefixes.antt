-- A line that is begun, and what follows it up to a line feed. This project's own.
use Rattle.std.specs.Prelude.{◌≡◌, ℕ, ◌+◌, ◌<◌, ◌≤◌, Bool, true, ◌==◌, not, List, ◌∷◌, ◌++◌}
use Rattle.std.specs.Prelude.{length, take, drop}
use Rattle.std.specs.List.{list_all}
use Rattle.wap_base.specs.Ascii.{line_feed}
use Rattle.wap_keys.specs.declared.limits.TheConstants.{LINE_LIMIT}
use Rattle.wap_keys.specs.declared.prefix.Prefix.{Prefix}
use Rattle.wap_keys.specs.declared.prefix.Prefix.TheVariants as prefix

-- no line feed is among the bytes
abbrev pub is_unended : List ℕ → Bool
is_unended bytes = list_all (λ c. not (c == line_feed)) bytes

-- a line that is begun goes on with what follows it, up to a line feed; one that would be too long
-- by then stays as it is
abbrev pub TakesPrefix : List ℕ → List ℕ → List ℕ → Prefix → Type 0
TakesPrefix old new unread prefix.Begun =
    (is_unended unread ≡ true) × (new ≡ old ++ unread) × (length new ≤ LINE_LIMIT)
TakesPrefix old new unread (prefix.Whole place) =
    (place < length unread) × (unread ≡ take place unread ++ line_feed ∷ drop (place + 1) unread)
    × (is_unended (take place unread) ≡ true)
    × (new ≡ old ++ take place unread) × (length new ≤ LINE_LIMIT)
TakesPrefix old new unread prefix.TooLong =
    (begun : List ℕ) × (rest : List ℕ) × (unread ≡ begun ++ rest) × (is_unended begun ≡ true)
    × (LINE_LIMIT < length old + length begun) × (new ≡ old)
