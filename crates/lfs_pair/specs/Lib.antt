pub mod Spelling
pub mod Writing
pub mod Difference
pub mod DifferenceSeen
pub mod Appending
pub mod Laws
