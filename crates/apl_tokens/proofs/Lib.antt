pub mod Runs
pub mod Rows
pub mod Texts
pub mod Stopped
pub mod Quotes
pub mod OneSymbol
pub mod Leads
pub mod OneToken
pub mod Lines
pub mod Unique
pub mod Total
pub mod FrontTotal
pub mod WithinLimits
mod Examples
