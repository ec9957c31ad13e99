pub mod LeastSupplies
pub mod EntryChange
pub mod Editable
pub mod Reaches
pub mod Freeing
pub mod LastNames
pub mod Front
