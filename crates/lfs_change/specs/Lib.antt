pub mod KeptPast
pub mod Change
pub mod Forgetting
pub mod Laws
pub mod TogetherLaws
pub mod Adopting
