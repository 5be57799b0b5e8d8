pub mod Scanning
pub mod RunningSums
pub mod Lines
pub mod Running
pub mod TruthLines
pub mod Parities
pub mod TruthScans
