pub mod RealPieces
pub mod NumberForms
pub mod CanonicalForms
pub mod RealContents
pub mod CanonicalContents
pub mod ZeroContents
