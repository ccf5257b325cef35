pub mod Elements
pub mod Grammar
pub mod Job
pub mod LongerInputs
pub mod Offsets
pub mod SecondReading
