pub mod BelowLaws
pub mod WayLaws
pub mod WindowLaws
pub mod HeldLaws
pub mod RemovalLaws
pub mod StopLaws
pub mod EmptyLaws
pub mod ThereLaws
pub mod TwoLaws
pub mod LikeLaws
mod ResumingExamples
pub mod OtherLaws
mod WayExamples
