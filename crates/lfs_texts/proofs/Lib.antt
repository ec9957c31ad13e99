pub mod SizeLemmas
pub mod NumberLemmas
pub mod StepLemmas
pub mod WordLemmas
pub mod ScriptLemmas
pub mod SaidLemmas
pub mod FaultLemmas
