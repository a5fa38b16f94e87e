pub mod FindLaws
pub mod WrapLaws
