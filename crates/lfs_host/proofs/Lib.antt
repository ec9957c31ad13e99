pub mod FileLemmas
pub mod MadeLemmas
pub mod BlameLemmas
pub mod MemoryTreeLemmas
