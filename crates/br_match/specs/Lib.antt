pub mod Fault
pub mod Matching
pub mod Walk
pub mod Groups
pub mod Near
pub mod Seen
pub mod Come
