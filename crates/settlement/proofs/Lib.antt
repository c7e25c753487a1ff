pub mod RowTestLaws
pub mod RankTestLaws
pub mod PayingLaws
pub mod WalkLaws
