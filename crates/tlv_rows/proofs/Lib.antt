pub mod Words
pub mod ByHand
pub mod generated
