pub mod Pool
pub mod Runs
pub mod Parts
pub mod Summaries
pub mod Folds
pub mod Crew
