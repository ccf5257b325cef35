pub mod Compared
pub mod Events
pub mod Forests
pub mod KeptFrames
pub mod OneElement
pub mod Passing
pub mod WantedOrder
