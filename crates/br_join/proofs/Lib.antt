mod DataLaws
pub mod PlainLaws
mod RoomLaws
pub mod TakingLaws
mod WholeLaws
pub mod FilesLaws
mod FirstLaws
mod FrontLaws
pub mod PieceLaws
pub mod ReadyLaws
pub mod StreamedLaws
