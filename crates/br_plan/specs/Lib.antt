pub mod Fault
pub mod Selected
pub mod Parts
pub mod Runs
pub mod Means
pub mod Asked
pub mod Moment
pub mod RequestWords
