pub mod Handing
pub mod StepKind
pub mod Storing
pub mod Printing
