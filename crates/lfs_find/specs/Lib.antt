pub mod Place
pub mod Sizes
pub mod Found
