pub mod Values
pub mod Bounds
pub mod Summaries
pub mod FoldedParts
pub mod Completes
pub mod RowParts
mod Examples
