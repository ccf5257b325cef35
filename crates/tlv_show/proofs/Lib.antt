pub mod SaturatingSums
pub mod FindingLemmas
pub mod DumpLemmas
pub mod SegmentLemmas
pub mod SetOrderLemmas
