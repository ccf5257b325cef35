pub mod Suspects
pub mod Around
