pub mod CheckLemmas
pub mod RealLemmas
pub mod NamesLemmas
pub mod RowLemmas
pub mod TextLemmas
pub mod Wordings
