pub mod CommitLaws
pub mod AlikeLaws
pub mod PlanPieceLaws
pub mod PlaceLaws
pub mod HeldLaws
pub mod StatusLaws
pub mod GoingLaws
pub mod PlannedLaws
pub mod RunLaws
pub mod ReachedLaws
pub mod PartLaws
pub mod NextLaws
pub mod MoveLaws
pub mod ViewLaws
pub mod WholeLaws
pub mod FirstLaws
pub mod ScriptLaws
pub mod MovingLaws
pub mod EventLaws
pub mod FaultLaws
pub mod StepLaws
pub mod PointLaws
pub mod BackupLaws
mod Computing
mod JobExamples
mod PlanExamples
mod ReadExamples
mod StageExamples
mod MachineExamples
