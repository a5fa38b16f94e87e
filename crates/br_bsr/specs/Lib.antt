pub mod Fault
pub mod Statement
pub mod Keyword
pub mod Line
pub mod Scan
pub mod Counts
