pub mod Opens
pub mod Crosses
pub mod Totals
pub mod Keeps
pub mod Lengths
pub mod Layouts
pub mod Marks
pub mod Opening
