pub mod RowLemmas
pub mod AcceptedLemmas
pub mod WalkSteps
pub mod WordLemmas
pub mod ReadLemmas
pub mod ParserLemmas
pub mod ParsedLemmas
