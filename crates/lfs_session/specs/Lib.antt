pub mod Known
pub mod Opened
pub mod Beside
pub mod Joining
