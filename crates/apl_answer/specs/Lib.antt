pub mod Faults
pub mod Pointwise
pub mod Elements
pub mod Arguments
pub mod Rows
pub mod Numbers
