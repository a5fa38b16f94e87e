mod PreparingLaws
mod VouchLaws
mod WritingLaws
pub mod ReachingLaws
mod EntryLaws
mod StandingLaws
pub mod HoldingLaws
pub mod OutcomeLaws
pub mod AddingLaws
pub mod BeginningLaws
pub mod LeadingLaws
pub mod ShowingLaws
mod ServedLaws
mod ListingLaws
pub mod OutlastingLaws
