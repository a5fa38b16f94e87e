pub mod Fault
pub mod Building
pub mod Crc
