pub mod RunSplits
pub mod SetPartLemmas
pub mod OverflowLemmas
pub mod SumLemmas
pub mod ChosenPairs
pub mod InOrder
pub mod CutPartLemmas
pub mod FrontLemmas
