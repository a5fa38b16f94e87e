pub mod JoinLaws
pub mod ReadLaws
pub mod ExtractLaws
pub mod DeliverLaws
pub mod LikeLaws
pub mod EndLaws
pub mod AgainLaws
pub mod StopLaws
pub mod PathLaws
mod FlagLaws
mod BackLaws
pub mod RestoreLaws
pub mod KeptLaws
mod NewestFlagsExamples
pub mod OlderLaws
