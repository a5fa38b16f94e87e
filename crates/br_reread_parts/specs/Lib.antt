pub mod FileParts
pub mod Given
pub mod Steps
pub mod TwoParts
pub mod Windows
