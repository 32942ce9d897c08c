pub mod Branching
pub mod Chaining
pub mod Effects
pub mod Extending
pub mod Looping
pub mod EmittedExpressions
pub mod StatementParts
pub mod WritingParts
