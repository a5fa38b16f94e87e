mod EscapeLaws
pub mod KeyLaws
pub mod PathLaws
pub mod TextLaws
pub mod SpaceLaws
pub mod SpellingLaws
pub mod NumberLaws
pub mod PathConflictLaws
mod NewestExamples
pub mod NewestLaws
pub mod PlannedLaws
pub mod BlankLaws
pub mod TrimLaws
