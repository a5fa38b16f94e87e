pub mod ByteSize
pub mod ClapCommands
pub mod CommandRows
pub mod Words
