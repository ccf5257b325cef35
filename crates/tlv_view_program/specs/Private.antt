pub mod BlockParts
pub mod LineOut
pub mod Tables
pub mod ShowsSome
pub mod RequestOf
