pub mod ChosenJobs
pub mod LoadedJobs
pub mod LocalCommands
pub mod DirLines
pub mod ListedJobs
