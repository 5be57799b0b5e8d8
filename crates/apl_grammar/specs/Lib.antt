pub mod Functions
pub mod Tree
pub mod Caret
pub mod Stops
pub mod Storage
pub mod Automaton
