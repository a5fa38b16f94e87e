pub mod SessionJobs
pub mod ConsoleCommandEnding
pub mod ConsoleStarting
pub mod ConsoleTasks
pub mod UnmatchedLines
