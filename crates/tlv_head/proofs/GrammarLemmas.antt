pub mod Scan
pub mod Meaning
pub mod Headers
pub mod RefusedOctets
