pub mod Places
pub mod OneElement
pub mod Elements
pub mod FirstElement
pub mod Held
pub mod Extents
pub mod OneHeader
