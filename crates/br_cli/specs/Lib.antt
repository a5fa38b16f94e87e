pub mod ExtractEnding
pub mod ExtractStarting
pub mod LostGroups
pub mod BootstrapFiles
pub mod VolumeFaults
pub mod ExtractTasks
pub mod CheckCommand
pub mod Explaining
