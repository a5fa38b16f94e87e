pub mod RowLaws
pub mod NewestLaws
pub mod CopyLaws
pub mod ViewLaws
pub mod FindLaws
