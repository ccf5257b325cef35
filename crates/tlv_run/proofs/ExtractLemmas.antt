pub mod Contents
pub mod Primitives
pub mod Inside
pub mod Elements
pub mod Job
pub mod LongerInputs
pub mod InTheInput
pub mod Laws
