mod LineLaws
mod VolumeLaws
mod ListedLaws
mod LineExamples
