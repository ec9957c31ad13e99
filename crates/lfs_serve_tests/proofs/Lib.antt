pub mod AskingLemmas
pub mod MemoryRowLemmas
