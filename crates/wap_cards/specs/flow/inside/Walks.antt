-- The walk over a card, as the code keeps what it took so far. This project's own.
use Rattle.std.specs.Prelude.{if◌then◌else◌, List, [], ◌∷◌, ◌++◌}
use Rattle.wap_tokens.specs.declared.markup.deck.Node.{Node}
use Rattle.wap_tokens.specs.declared.markup.name.Tag.TheVariants as tags
use Rattle.wap_tokens.specs.markup.Tables.{is_same_tag}
use Rattle.wap_vars.specs.Variables.{Variables}
use Rattle.wap_cardrules.specs.Content.{Mark, words, begins, ends}
use Rattle.wap_cardrules.specs.Flow.{shown_with}
use Rattle.wap_cards.specs.declared.flow.walk.Walk.{Walk}

-- the dos that began, with the one that begins here, if one does
abbrev pub dos_with : List Node → Mark → List Node
dos_with dos (words parts) = dos
dos_with dos (begins node) = if is_same_tag node.tag tags.Do then dos ++ node ∷ [] else dos
dos_with dos (ends node) = dos

-- what was taken, and a mark more
abbrev pub walked : Variables → Walk → Mark → Walk
walked vars walk mark =
    record { shown = shown_with vars walk.shown mark; dos = dos_with walk.dos mark }
