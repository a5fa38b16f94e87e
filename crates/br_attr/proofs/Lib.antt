pub mod DigitLaws
pub mod ReadingLaws
pub mod WritingLaws
