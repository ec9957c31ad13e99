pub mod LaidLemmas
pub mod PairWrites
pub mod LinksInTurn
pub mod LinksOfOutlines
pub mod AttributesRise
