pub mod Searching
pub mod Ordering
pub mod Sorting
pub mod Tables
pub mod Finding
pub mod Keys
pub mod Parted
