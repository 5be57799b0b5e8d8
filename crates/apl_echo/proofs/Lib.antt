pub mod Examples
pub mod OneLine
pub mod Spaced
pub mod Numerals
pub mod Readings
pub mod Numbers
pub mod Texts
