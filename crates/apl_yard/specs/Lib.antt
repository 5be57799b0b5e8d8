pub mod Views
pub mod Rule
pub mod Steals
pub mod Ends
