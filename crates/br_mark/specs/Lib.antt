pub mod Applied
pub mod Argument
pub mod Fault
pub mod Said
pub mod Seen
