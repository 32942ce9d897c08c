-- A walk through all that a browser does for a script, once: two hosts answer the same from the
-- same steps, or from a step and that step moved, until both are lost by what was asked for or let
-- in.
pub mod Kin
pub mod Calls
pub mod Dialogs
pub mod Runs
