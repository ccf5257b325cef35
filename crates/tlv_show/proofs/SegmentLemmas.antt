pub mod Events
pub mod Forests
pub mod Frames
pub mod KeptFrames
pub mod Seen
