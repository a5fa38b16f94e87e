mod HeaderLaws
mod FragmentLaws
mod BuildingLaws
pub mod ShiftLaws
mod CrcExamples
