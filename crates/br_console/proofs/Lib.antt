pub mod TalkLaws
pub mod RunLaws
pub mod SelectingLaws
pub mod StandingLaws
pub mod ChoiceLaws
pub mod ChoiceAloneLaws
pub mod PathsLaws
pub mod PathsExamples
