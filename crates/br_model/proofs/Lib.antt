mod NumberExamples
mod NameExamples
mod AttributeExamples
mod Reading
mod CutExamples
mod FileExamples
mod ExtractExamples
mod BootstrapExamples
mod BootstrapTextExamples
mod Choosing
mod ChoiceExamples
mod ConsoleExamples
mod MomentExamples
mod PlanExamples
mod TwoJobsExamples
mod SessionExamples
mod DeliveryExamples
pub mod AnswerLaws
pub mod ListLaws
pub mod OrderLaws
pub mod AttributeLaws
pub mod NumberLaws
pub mod ReachLaws
pub mod PieceLaws
pub mod HitLaws
pub mod VolumeLaws
pub mod RecordLaws
pub mod JoinFaultLaws
pub mod ExtentLaws
pub mod BlockLaws
pub mod CutLaws
pub mod FileLaws
pub mod EntryFileLaws
pub mod RisingLaws
pub mod SpanHitLaws
pub mod PlanFileLaws
pub mod EntryLaws
pub mod PlanFoundLaws
pub mod PlanLaws
pub mod ChosenPlanLaws
pub mod GroupLaws
pub mod PairLaws
pub mod PlanVolumeLaws
pub mod FoundLaws
pub mod FoundSetLaws
pub mod MeaningLaws
pub mod RangeLaws
pub mod SpanLaws
pub mod ViewLaws
pub mod ConsoleLaws
pub mod CanonicalLaws
pub mod GrammarTextLaws
pub mod GrammarItemLaws
pub mod GrammarQuoteLaws
pub mod GrammarValueLaws
pub mod GrammarLineLaws
pub mod GrammarLaws
pub mod WrittenBlockLaws
pub mod WrittenVolumeLaws
pub mod WrittenSpanLaws
pub mod WrittenFileLaws
pub mod WrittenSessionLaws
mod AnswerExamples
mod TextExamples
mod OrderExamples
mod BlockExamples
mod VolumeExamples
mod RecordExamples
mod ContentExamples
mod MeaningExamples
mod HitExamples
mod RestoredExamples
mod ManifestExamples
mod LineExamples
mod RefusedLineExamples
mod GrammarExamples
mod JobExamples
mod ViewExamples
mod CommandExamples
mod ApplyExamples
mod StoredExamples
mod PackingExamples
mod WrittenExamples
mod PlanMeaningExamples
