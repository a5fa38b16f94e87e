mod DigestingLaws
mod FileHitsLaws
mod GivenLaws
mod PlainFileLaws
mod RunLaws
mod SharingLaws
mod StatLaws
mod TurnLaws
mod TwoLaws
pub mod AgainLaws
mod AgainExamples
pub mod MeantLaws
