pub mod Formatted
pub mod Carried
pub mod CarryingLaws
