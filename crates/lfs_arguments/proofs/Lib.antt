pub mod AutoLemmas
pub mod Handed
pub mod NameLemmas
pub mod OptionLemmas
