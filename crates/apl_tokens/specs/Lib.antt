pub mod Symbols
pub mod Fronts
pub mod Lexis
pub mod Stops
pub mod Storage
pub mod Scans
pub mod Constants
