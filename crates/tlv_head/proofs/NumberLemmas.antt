pub mod Digits
pub mod OneValue
