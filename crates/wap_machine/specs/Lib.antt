pub mod Seen
pub mod Standing
pub mod Doing
pub mod inside
pub mod Hosts
pub mod Stacks
pub mod Runs
