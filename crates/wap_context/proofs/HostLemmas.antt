pub mod Shelves
pub mod Serving
pub mod Comings
pub mod Calls
pub mod Loads
