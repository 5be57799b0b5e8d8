pub mod Commands
pub mod Reading
pub mod Answers
pub mod Parses
