pub mod Claims
pub mod Fault
pub mod Fields
pub mod Own
pub mod Rule
