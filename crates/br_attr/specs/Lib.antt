pub mod Fault
pub mod Digits
pub mod Path
pub mod Numbers
pub mod Parts
