pub mod AtHand
