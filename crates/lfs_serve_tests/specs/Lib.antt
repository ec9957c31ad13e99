pub mod Asking
pub mod MemoryRows
