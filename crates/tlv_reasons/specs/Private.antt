pub mod Tracking
pub mod Lengths
pub mod Silence
pub mod Sizes
pub mod OutermostKinds
