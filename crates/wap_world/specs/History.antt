-- The history (WAP-191, section 9.2): the cards that were entered, the current one last. How many
-- it keeps is this project's own.
use Rattle.std.specs.Prelude.{ℕ, ◌-◌, ◌≤◌, nat_lt, if◌then◌else◌, List, [], ◌∷◌}
use Rattle.std.specs.Prelude.{◌++◌, length, take, drop, Option, None}
use Rattle.std.specs.List.{last_or}
use Rattle.wap_url.specs.declared.url.Url.{Url}
use Rattle.wap_url.specs.Printing.{without_fragment}
use Rattle.wap_tokens.specs.declared.markup.deck.Deck.{Deck}
use Rattle.wap_tokens.specs.markup.Cards.{cards_of}
use Rattle.wap_world.specs.declared.history.Entry.{Entry}
use Rattle.wap_world.specs.World.{World}

-- the entry of a card that a URL led to, by the URL of its deck
abbrev pub entry_of : Url → ℕ → Entry
entry_of url card = record { url = without_fragment url; card = card }

-- one entry more; a full history loses its oldest
abbrev pub pushed : World → Entry → World
pushed world entry =
    let history = world.history in
    let kept = if nat_lt (length history) world.limits.history then history else drop 1 history in
    record world { history = kept ++ entry ∷ [] }

-- a history without its current card
abbrev pub all_but_last : List Entry → List Entry
all_but_last history = take (length history - 1) history

-- the entry before the current one, if there is one
abbrev pub earlier_entry : World → Option Entry
earlier_entry world = last_or None (all_but_last world.history)

-- a card's number past the end of its deck becomes that of the first card
abbrev pub in_deck : Deck → Entry → Entry
in_deck deck entry =
    if nat_lt entry.card (length (cards_of deck)) then entry else record entry { card = 0 }

-- the last entry is gone, and this is the earlier one
abbrev pub back_at : World → Entry → World
back_at world earlier =
    record world { history = all_but_last (all_but_last world.history) ++ earlier ∷ [] }

-- the history has no more entries than its limit, which is at least 1
pub record KeepsToLimit (world : World) : Type 0 where
  pub some : 1 ≤ world.limits.history
  pub few : length world.history ≤ world.limits.history
