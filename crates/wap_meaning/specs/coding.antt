-- The code of WMLScript's programs, as definitions in `specs/`: the forms of each expression and
-- statement, what they need of their unit, and its constants. There is no code here.
pub mod Coded
pub mod Constants
pub mod Expressions
pub mod Statements
pub mod Needs
pub mod Compiled
