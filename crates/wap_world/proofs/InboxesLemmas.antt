pub mod Reacting
pub mod Winning
pub mod Alerts
pub mod Playing
pub mod Alike
pub mod Counting
