pub mod StepKind
pub mod LaterRead
pub mod Batching
pub mod Trees
pub mod Program
pub mod Lines
pub mod Requests
