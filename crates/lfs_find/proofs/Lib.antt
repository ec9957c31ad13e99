pub mod FoundLemmas
pub mod SizesLemmas
pub mod PlacesLemmas
pub mod LookLemmas
