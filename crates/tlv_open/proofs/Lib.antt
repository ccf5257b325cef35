pub mod ElementLemmas
pub mod FinderLemmas
pub mod LawLemmas
pub mod BreakLemmas
