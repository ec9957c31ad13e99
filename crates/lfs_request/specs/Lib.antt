pub mod Fault
pub mod KeptJournal
pub mod Place
pub mod Query
pub mod SaidLimits
pub mod Operation
pub mod View
pub mod Standing
