pub mod Items
pub mod BlockSteps
pub mod InputBlockLemmas
pub mod NamedOffsets
pub mod ReasonSteps
pub mod ShownLemmas
pub mod ReadsSoFar
mod FileLemmas
mod RequestLemmas
mod LineLemmas
mod FirstOctets
