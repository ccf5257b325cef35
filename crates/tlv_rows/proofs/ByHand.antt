pub mod Alike
pub mod DeepStrings
pub mod Depth
pub mod Devices
pub mod Headers
pub mod PemBlocks
pub mod Shortest
