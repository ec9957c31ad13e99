pub mod Damage
pub mod Seen
