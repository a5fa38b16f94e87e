pub mod AppLaws
pub mod WordsLaws
mod SizeExamples
mod WordsExamples
