pub mod MemoryDevices
