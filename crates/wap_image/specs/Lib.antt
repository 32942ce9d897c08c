pub mod Sequences
pub mod Items
pub mod Images
pub mod Refusal
pub mod Rules
pub mod Spelling
pub mod Printing
pub mod inside
