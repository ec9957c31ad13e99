pub mod CommandLemmas
pub mod FaultlessCommands
pub mod FaultlessRows
pub mod GrammarLemmas
pub mod Lists
pub mod WordLemmas
mod WordExamples
