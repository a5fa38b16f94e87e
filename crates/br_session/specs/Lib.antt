pub mod Fault
pub mod Packing
pub mod Order
pub mod Records
pub mod Spans
pub mod Outcome
pub mod Whole
