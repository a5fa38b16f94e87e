mod LineLaws
pub mod DeliveryLaws
mod PartLaws
pub mod LeavingLaws
pub mod ApartLaws
pub mod PassingLaws
pub mod NotedLaws
mod ApartGoesOnLaws
mod ApartExamples
mod SinkExamples
