pub mod Held
pub mod Opens
pub mod Breaks
pub mod BrokenLine
pub mod Laws
pub mod Private
