pub mod DeckParts
