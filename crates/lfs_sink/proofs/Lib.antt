pub mod SendLemmas
pub mod WaitingLemmas
