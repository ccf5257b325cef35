pub mod NumberLemmas
pub mod Wraps
pub mod GrammarLemmas
pub mod ReaderLemmas
pub mod ShortestLemmas
