pub mod OrderLaws
pub mod RangeLaws
pub mod LengthLaws
pub mod RecordLaws
pub mod DealLaws
pub mod SpanLaws
pub mod PackedLaws
pub mod OutcomeLaws
mod PackingLaws
