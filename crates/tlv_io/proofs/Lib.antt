pub mod Puts
pub mod Sends
pub mod HeldTexts
pub mod OffsetTexts
pub mod Pieces
pub mod CutOf
