pub mod Tables
pub mod Fields
pub mod Indications
pub mod Calculation
pub mod Pushes
pub mod Printing
pub mod inside
pub mod Inbox
