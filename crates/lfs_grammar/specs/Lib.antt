pub mod Grammar
pub mod Hyphens
