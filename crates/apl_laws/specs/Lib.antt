pub mod Giving
pub mod Turning
pub mod Order
