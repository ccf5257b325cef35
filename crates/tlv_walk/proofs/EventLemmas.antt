pub mod NextEvents
pub mod JoinedEvents
pub mod LongerInputs
pub mod UnusedOffset
pub mod NamedOffsets
pub mod Wrappers
