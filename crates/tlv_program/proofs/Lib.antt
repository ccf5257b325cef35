pub mod CommandLemmas
mod NumberLemmas
mod OffsetLemmas
pub mod ParserLemmas
mod Replaced
