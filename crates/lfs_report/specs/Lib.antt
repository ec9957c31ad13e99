pub mod RefusedLine
pub mod Stop
