pub mod Fault
pub mod Decode
pub mod Rows
pub mod Load
pub mod Inserted
pub mod Wrong
pub mod WrongRows
pub mod WrongText
