mod LoadedLaws
mod SessionLaws
mod DamageLaws
