pub mod Splitting
pub mod SetParts
pub mod RoomChecks
pub mod Overflow
pub mod Chosen
pub mod CutParts
pub mod Front
