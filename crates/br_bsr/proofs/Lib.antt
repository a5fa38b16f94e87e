pub mod ScanLaws
pub mod ItemLaws
pub mod KeywordLaws
pub mod VolumeLaws
pub mod LineLaws
pub mod ValidLaws
mod CountLaws
mod GroupLaws
