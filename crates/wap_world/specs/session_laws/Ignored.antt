-- Keys that fit nothing, outside a dialog. This project's own.
use Rattle.std.specs.Prelude.{◌≡◌, ℕ, Bool, true, false, List, Option}
use Rattle.std.specs.Option.{option_and_then}
use Rattle.wap_base.specs.declared.key.Key.{Key}
use Rattle.wap_base.specs.declared.key.Key.TheVariants as key
use Rattle.wap_tokens.specs.declared.markup.deck.Node.{Node}
use Rattle.wap_tokens.specs.declared.markup.name.Tag.TheVariants as tags
use Rattle.wap_cardrules.specs.Fields.{field_with, numbered}
use Rattle.wap_cardrules.specs.Selects.{options_of}
use Rattle.wap_world.specs.Sites.{Site}
use Rattle.wap_world.specs.declared.timer.Timer.{Timer}
use Rattle.wap_world.specs.declared.timer.Timer.TheVariants.{Running}
use Rattle.wap_world.specs.World.{World}
use Rattle.wap_world.specs.Steps.{quiet}
use Rattle.wap_world.specs.Keys.{react, renewed, ignored}

-- the key shows the line of an ignored key, and changes nothing but that it has its turns
abbrev pub IsIgnored : Site → Key → List Key → World → Type 0
IsIgnored site one keys world = react site one keys world ≡ quiet keys (ignored (renewed world))

-- whether a key is for a card: all but one that opens a URL, one that shows the variables, and
-- those of an inbox
abbrev pub is_for_card : Key → Bool
is_for_card (key.Open url) = false
is_for_card key.Vars = false
is_for_card (key.Push bytes) = false
is_for_card key.Inbox = false
is_for_card (key.Follow n) = false
is_for_card other = true

-- the option of a number, in the select of another
abbrev pub option_with : Node → ℕ → ℕ → Option Node
option_with card n m =
    option_and_then (λ select. numbered (options_of select) m) (field_with tags.Select card n)

-- whether some time remains of a timer
abbrev pub is_running : Timer → Bool
is_running (Running time) = true
is_running other = false
