pub mod Piece
pub mod Missing
pub mod Gaps
pub mod NearRanges
pub mod FileCounts
pub mod MissingLines
