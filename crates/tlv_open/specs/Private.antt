pub mod Elements
pub mod Held
pub mod Walks
pub mod Finds
pub mod Adds
