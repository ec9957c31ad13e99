pub mod VerdictRows
pub mod PathTexts
pub mod LastNames
