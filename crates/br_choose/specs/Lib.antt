pub mod Fault
pub mod Wanted
