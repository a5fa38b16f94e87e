pub mod ListingFault
pub mod JobFilter
pub mod ListingLine
pub mod LocalTime
pub mod PurgedJobs
pub mod JobMarks
pub mod JobNumbers
pub mod ListedFiles
