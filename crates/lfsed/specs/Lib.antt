pub mod Words
pub mod JsonWord
pub mod Way
