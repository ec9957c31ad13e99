pub mod ReadLemmas
pub mod WayLemmas
pub mod UsageErrorLemmas
