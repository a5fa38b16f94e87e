pub mod Making
pub mod Opening
pub mod Records
pub mod Runs
pub mod Data
pub mod Outline
pub mod ShownRecords
