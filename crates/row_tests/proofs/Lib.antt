pub mod RowTestLaws
