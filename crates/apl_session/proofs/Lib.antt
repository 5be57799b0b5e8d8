pub mod WrittenLemmas
pub mod LineLemmas
pub mod RunLemmas
pub mod SourceLemmas
pub mod LawLemmas
pub mod Steps
pub mod SomeSteps
mod Examples
