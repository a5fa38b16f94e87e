pub mod Options
pub mod RefusalTable
pub mod RefusalText
pub mod RefusalRows
pub mod RefusalLines
