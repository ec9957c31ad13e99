pub mod Adopted
pub mod Changed
pub mod Draft
pub mod Laws
pub mod Planned
pub mod Rewritten
pub mod Tidied
pub mod Tidying
