pub mod Exact
pub mod Bits
pub mod Signs
pub mod Counting
pub mod Powers
pub mod PowerBits
pub mod Residues
pub mod Narrow
pub mod Sources
pub mod InRange
pub mod WithinLimits
pub mod Truths
pub mod Parts
mod Examples
