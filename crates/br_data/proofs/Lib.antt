mod StandLaws
mod ReadLaws
mod KnownLaws
mod SpanLaws
mod BodyPartLaws
mod WrittenLaws
pub mod OverLaws
mod ManyLaws
pub mod GoOnLaws
