pub mod StepLaws
pub mod SeenLaws
pub mod GroupLaws
pub mod OverLaws
pub mod FoundLaws
pub mod RangeLaws
pub mod NearLaws
pub mod ComeLaws
