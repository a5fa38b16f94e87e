pub mod GroupSessions
pub mod LostFiles
pub mod LeftIndexes
pub mod NarrowedBootstrap
