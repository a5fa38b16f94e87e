pub mod ChoiceLaws
mod EndLaws
pub mod ExtentLaws
mod JoinLaws
mod PartLaws
pub mod FilesLaws
pub mod OutlineLaws
pub mod RunLaws
pub mod SortLaws
