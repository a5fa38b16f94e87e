pub mod KeptValues
pub mod Moves
