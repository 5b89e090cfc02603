pub mod WordLaws
pub mod NumberLaws
pub mod Tens
pub mod LineLaws
pub mod WordSpans
pub mod WordCuts
