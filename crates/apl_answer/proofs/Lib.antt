pub mod Widened
pub mod Gathering
pub mod Places
pub mod Answers
pub mod Examples
pub mod Passed
