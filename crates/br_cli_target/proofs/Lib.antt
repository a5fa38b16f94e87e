pub mod TarLaws
pub mod OwnLaws
pub mod OriginLaws
pub mod AskingLaws
mod AbsentExamples
mod AskedExamples
