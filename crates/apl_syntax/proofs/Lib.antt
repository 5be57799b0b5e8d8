pub mod Words
pub mod Numbers
pub mod Spelled
pub mod Parsed
pub mod Readings
pub mod Total
mod Examples
