pub mod GrammarLemmas
pub mod EventLemmas
pub mod CursorLemmas
pub mod StackLemmas
pub mod WalkerLemmas
pub mod FollowerLemmas
