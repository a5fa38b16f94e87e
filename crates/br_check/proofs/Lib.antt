mod CallLaws
mod SearchLaws
mod CopyLaws
mod LabelLaws
mod CheckLaws
mod NameLaws
mod ConflictLaws
mod StopLaws
pub mod ReadLaws
pub mod BlockLaws
pub mod LaterLaws
pub mod StepLaws
pub mod PieceLaws
pub mod TellLaws
mod FindingsExamples
