pub mod SplitLaws
pub mod PlaceLaws
pub mod GapLaws
pub mod NearLaws
pub mod MissingLaws
pub mod CountLaws
