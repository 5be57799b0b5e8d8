pub mod NameLemmas
pub mod StackLemmas
pub mod StepLemmas
pub mod Endings
pub mod LawfulLemmas
pub mod ReportLemmas
mod Examples
