pub mod DeskLaws
pub mod DialogueLaws
pub mod FixedLaws
pub mod DrivenLaws
pub mod LineLaws
pub mod VolumesLaws
