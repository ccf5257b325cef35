pub mod OffsetText
pub mod PairTable
pub mod ReadLog
pub mod WritesOver
