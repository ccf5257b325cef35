pub mod Reads
pub mod LinesSoFar
pub mod Tables
pub mod Texts
pub mod DottedTexts
