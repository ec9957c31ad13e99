pub mod ChangeLemmas
pub mod ForgettingLemmas
pub mod LawLemmas
pub mod GrowthLemmas
pub mod TakenBackLemmas
pub mod TogetherLemmas
pub mod AdoptingLemmas
