pub mod ConsoleFault
pub mod ConsoleEnding
pub mod Talking
pub mod Running
pub mod Selecting
pub mod Delivering
pub mod MarkedPaths
