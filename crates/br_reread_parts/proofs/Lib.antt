mod PartLaws
mod StepLaws
mod TwoLaws
pub mod GivenLaws
pub mod PlainLaws
pub mod PutLaws
pub mod WindowLaws
