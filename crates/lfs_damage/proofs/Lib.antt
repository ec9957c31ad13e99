pub mod ClosingSteps
pub mod EndLoops
