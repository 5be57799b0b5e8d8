pub mod Rooms
pub mod Views
pub mod Rule
pub mod Steps
pub mod Seats
pub mod Layout
