pub mod Arithmetic
pub mod Scalar
pub mod Meeting
pub mod Limits
pub mod Runs
pub mod Extension
pub mod Monadic
pub mod Dyadic
