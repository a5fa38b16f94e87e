pub mod WayLaws
pub mod MarkLaws
pub mod ShowLaws
