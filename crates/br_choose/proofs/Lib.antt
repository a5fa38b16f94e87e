pub mod InOrderLaws
pub mod ChainLaws
pub mod RankLaws
pub mod ChoiceLaws
