pub mod ExtendLaws
pub mod DriveLaws
pub mod AppendLaws
pub mod GrowingLaws
pub mod FolderLaws
pub mod FreeLaws
pub mod StoreLaws
pub mod SyncLaws
