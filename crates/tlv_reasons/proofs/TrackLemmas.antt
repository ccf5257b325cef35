pub mod TrackedEvents
pub mod TrackSteps
pub mod TrackedForests
pub mod OpenPlace
pub mod TrackedWalks
pub mod MadeFacts
