pub mod Cuts
pub mod ReadLaws
pub mod SpanOrder
pub mod LoadLaws
pub mod SomeFilesLaws
pub mod InsertedLaws
pub mod WrongLaws
